-- Values, rows and relations, as plain data.
--     value_cmp, row_cmp, name_cmp, attribute_cmp      the printing order
--     rows_of      the rows of a list, as a set
--     fits, fits_heading      which values are of a kind, and which rows of a heading
--     is_heading, IsRelation      what headings and relations are
use Rattle.std.specs.Prelude.{pos, map, ◌++◌, ℕ, ◌≤◌, ℤ, Bool, true, false, ◌&&◌, List, [], ◌∷◌, length, nat_le, int_le, IsTrue}
use Rattle.std.specs.List.{list_all}
use Rattle.std.specs.List.Sorted.{IsStrictlySortedBy}
use Rattle.std.specs.declared.cmp.Ordering.{Ordering}
use Rattle.std.specs.Ordering.{nat_cmp, int_cmp, ordering_then, eq_by_cmp, on}
use Rattle.std.specs.Cmp.Lexicographic.{slice_cmp}
use Rattle.point_core.specs.declared.any_type.AnyType.{AnyType}
use Rattle.point_core.specs.Points.{Line, integers, days, values_of, seconds, line_of, is_number}
use Rattle.interval_core.specs.Members.{Span}
use Rattle.base_core.specs.Sets.{is_set, in_order, are_same}
use Rattle.value_core.specs.Lengths.{is_text}
use Rattle.value_core.specs.Limits.{most_attributes}
pub use Rattle.value_core.specs.Limits.{most_rows}
use Rattle.value_core.specs.declared.kind.Kind.{Kind}
use Rattle.value_core.specs.declared.kind.Kind.TheVariants.{Truth, Char, Point, Span as SpanOf}

-- a name, by its bytes
abbrev pub Name : Type 0
Name = List ℕ

-- a truth value, a text by its bytes, a point with its line, or an interval with its line
pub data Value : Type 0 where
  truth : Bool → Value
  text : List ℕ → Value
  point : Line → ℤ → Value
  interval : Line → Span → Value

-- values in the order of a heading's attributes
abbrev pub Row : Type 0
Row = List Value

-- the attributes, in the order of the bytes of their names
abbrev pub Heading : Type 0
Heading = List (Name × Kind)

-- rows are a set in the printing order, so two relations are equal exactly where their headings and their rows are
pub record Relation : Type 0 where
  pub heading : Heading
  pub rows : List Row

-- ---- the printing order

-- what tells the order of values: their sort and their parts. Truth values come first, then texts, points and intervals; FALSE
-- before TRUE; integers before days before ordinal values, these by the number of their type, before seconds
abbrev pub line_key : Line → List ℤ
line_key integers = pos 0 ∷ []
line_key days = pos 1 ∷ []
line_key (values_of n) = pos 2 ∷ pos n ∷ []
line_key seconds = pos 3 ∷ []

abbrev pub truth_key : Bool → ℤ
truth_key false = pos 0
truth_key true = pos 1

abbrev pub value_key : Value → List ℤ
value_key (truth b) = pos 0 ∷ truth_key b ∷ []
value_key (text bytes) = pos 1 ∷ map pos bytes
value_key (point l p) = pos 2 ∷ line_key l ++ p ∷ []
value_key (interval l i) = pos 3 ∷ line_key l ++ i.0 ∷ i.1 ∷ []

-- FALSE before TRUE, texts by bytes, points by number, intervals by BEGIN and then END
abbrev pub value_cmp : Value → Value → Ordering
value_cmp = on value_key (slice_cmp int_cmp)

-- integers before days before ordinal values, these by the number of their type, before seconds
abbrev pub line_cmp : Line → Line → Ordering
line_cmp = on line_key (slice_cmp int_cmp)

-- intervals of one line, by BEGIN and then END
abbrev pub span_cmp : Span → Span → Ordering
span_cmp i j = ordering_then (int_cmp i.0 j.0) (int_cmp i.1 j.1)

-- rows by their values, left to right
abbrev pub row_cmp : Row → Row → Ordering
row_cmp = slice_cmp value_cmp

-- names by their bytes
abbrev pub name_cmp : Name → Name → Ordering
name_cmp = slice_cmp nat_cmp

-- the rows of a list, as a set
abbrev pub rows_of : List Row → List Row
rows_of = in_order row_cmp

abbrev pub same_rows : List Row → List Row → Bool
same_rows = are_same row_cmp

-- ---- what fits

-- whether two lines are one
abbrev pub same_line : Line → Line → Bool
same_line = eq_by_cmp line_cmp

-- whether the ends are points of the type, in order
abbrev pub is_interval : AnyType → Span → Bool
is_interval t i = is_number t i.0 && (is_number t i.1 && int_le i.0 i.1)

-- whether the value is of the kind, and its points are points of the type
abbrev pub fits : Kind → Value → Bool
fits Truth (truth b) = true
fits Char (text bytes) = is_text bytes
fits (Point t) (point l p) = same_line l (line_of t) && is_number t p
fits (SpanOf t) (interval l i) = same_line l (line_of t) && is_interval t i
fits _ _ = false

-- whether there is one value for each attribute, of its kind
abbrev pub fits_heading : Heading → Row → Bool
fits_heading [] [] = true
fits_heading [] (v ∷ vs) = false
fits_heading (a ∷ rest) [] = false
fits_heading (a ∷ rest) (v ∷ vs) = fits a.1 v && fits_heading rest vs

-- attributes by their names
abbrev pub attribute_cmp : Name × Kind → Name × Kind → Ordering
attribute_cmp = on (λ (a : Name × Kind). a.0) name_cmp

-- whether the names ascend, and are not too many
abbrev pub is_heading : Heading → Bool
is_heading h = is_set attribute_cmp h && nat_le (length h) most_attributes

-- rows that ascend and fit the heading, and are not too many
pub record IsRelation (r : Relation) : Type 0 where
  pub headed : IsTrue (is_heading r.heading)
  pub ascending : IsStrictlySortedBy row_cmp r.rows
  pub fitting : IsTrue (list_all (fits_heading r.heading) r.rows)
  pub few : length r.rows ≤ most_rows
