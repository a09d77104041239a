-- The stored log at its first statement, and what it gains and loses at each later one.
--     IsLogHeading, without      the heading of a log, and that of its relvar
--     log_heading, side_of      the heading of a relvar's log, and the place of its interval attribute
--     IsOpened      the stored log at its first statement
--     lost, gained      what it loses and gains at a statement
--     exchanged      the rows after some have come and others have gone
--     IsExact      rows that come and are not there, and rows that go and are
--     IsTurned      of what a stored log gains and loses
use Rattle.std.specs.Prelude.{◌≡◌, ℕ, suc, ◌<◌, ℤ, pos, ◌-ℤ◌, Bool, false, ◌&&◌, List, [], ◌∷◌, ◌++◌, map, filter, take, drop, length, IsTrue}
use Rattle.base_core.specs.Sets.{has, in_order}
use Rattle.point_core.specs.declared.any_type.AnyType.TheVariants.{Integer}
use Rattle.value_core.specs.Headings.{position_of, IsHeadingOf}
use Rattle.value_core.specs.Values.{Name, Row, Heading, Relation, row_cmp, rows_of, attribute_cmp}
use Rattle.value_core.specs.declared.kind.Kind.{Kind}
use Rattle.value_core.specs.declared.kind.Kind.TheVariants.{Span as SpanOf}
use Rattle.relation_core.specs.Operators.{united, subtracted}
use Rattle.relation_core.specs.Parts.{kind_at}
use Rattle.log_times.specs.Logs.{stamped, unstamped, moved, open_end, is_standing, standing, closed, IsStored}

-- ---- headings

-- the kind of the attribute with the statements: INTERVAL(INTEGER)
abbrev pub kind_of_statements : Kind
kind_of_statements = SpanOf Integer

-- the heading has that attribute at the place
pub record IsLogHeading (side : ℕ) (heading : Heading) : Type 0 where
  pub within : side < length heading
  pub kind : kind_at heading side ≡ kind_of_statements

-- the heading without the attribute at the place: that of the relvar
abbrev pub without : ℕ → Heading → Heading
without side heading = take side heading ++ drop (suc side) heading

-- the heading of the log: the relvar's with an attribute of this name
abbrev pub log_heading : Heading → Name → Heading
log_heading heading attribute = in_order attribute_cmp ((attribute, kind_of_statements) ∷ heading)

-- where the attribute stands in it
abbrev pub side_of : Heading → Name → ℕ
side_of heading attribute = position_of (log_heading heading attribute) attribute

-- ---- the first statement

-- the stored rows of those that stand from the statement n on
abbrev pub begun : ℕ → ℤ → List Row → List Row
begun side n rows = map (stamped side (n, open_end)) rows

-- the stored log at the statement n, its first, after which the relvar has this value
pub record IsOpened (attribute : Name) (n : ℤ) (now log : Relation) : Type 0 where
  pub attributes : IsHeadingOf (now.heading ++ (attribute, kind_of_statements) ∷ []) log.heading
  pub heading : log.heading ≡ log_heading now.heading attribute
  pub place : IsLogHeading (side_of now.heading attribute) log.heading
  pub relvar : without (side_of now.heading attribute) log.heading ≡ now.heading
  pub rows : log.rows ≡ rows_of (begun (side_of now.heading attribute) n now.rows)
  pub stored : IsStored (side_of now.heading attribute) n log.rows
  pub stands : standing (side_of now.heading attribute) log.rows ≡ now.rows
  pub reads : closed (side_of now.heading attribute) n log.rows ≡ moved (side_of now.heading attribute) n now.rows []

-- ---- a later statement

-- whether a stored row stands and its row is among those that go
abbrev pub goes : ℕ → List Row → Row → Bool
goes side gone row = is_standing side row && has row_cmp gone (unstamped side row)

-- the stored rows of those that go
abbrev pub lost : ℕ → List Row → List Row → List Row
lost side gone log = filter (goes side gone) log

-- at the statement n: the rows of those that go, ended at the statement before, and those of the rows that come
abbrev pub gained : ℕ → ℤ → List Row → List Row → List Row → List Row
gained side n come gone log = rows_of (closed side (n -ℤ pos 1) (lost side gone log) ++ begun side n come)

-- the rows after some have come and then others have gone
abbrev pub exchanged : List Row → List Row → List Row → List Row
exchanged rows come gone = subtracted (united rows come) gone

-- of a relvar with these rows: the rows that come are not among them, and those that go are
pub record IsExact (rows come gone : List Row) : Type 0 where
  pub new : (x : Row) → IsTrue (has row_cmp come x) → has row_cmp rows x ≡ false
  pub there : (x : Row) → IsTrue (has row_cmp gone x) → IsTrue (has row_cmp rows x)

-- of a stored log: these rows it gains and loses at the statement n, in which the relvar gains the rows that come and then loses those that go
pub record IsTurned (side : ℕ) (n : ℤ) (come gone log gains losses : List Row) : Type 0 where
  pub more : gains ≡ gained side n come gone log
  pub less : losses ≡ lost side gone log
  pub exact : IsExact log gains losses
  pub stored : IsStored side n (exchanged log gains losses)
  pub stands : standing side (exchanged log gains losses) ≡ exchanged (standing side log) come gone
  pub reads : closed side n (exchanged log gains losses) ≡ moved side n (exchanged (standing side log) come gone) (closed side (n -ℤ pos 1) log)
