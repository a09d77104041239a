-- Rows of two relations that go together: they have the same values at some positions, and intervals that meet.
--     Stood      a row, the values by which it goes with others, and its interval
--     Ascend      rows by these values, and then by where their intervals begin
--     IsWithin, IsLater      a row that begins within another of the same values
--     made_row      the row that two such rows give
--     AreMade      the rows that all of them give
use Rattle.std.specs.Prelude.{◌≡◌, ℕ, ◌<◌, ◌≤◌, ◌⊎◌, ◌↔◌, ℤ, ◌<ℤ◌, ◌≤ℤ◌, Bool, true, false, List, [], ◌++◌, map, set, get_or, IsTrue}
use Rattle.std.specs.Int.{int_max, int_min}
use Rattle.std.specs.Ordering.{int_cmp, ordering_then}
use Rattle.std.specs.declared.cmp.Ordering.{Ordering}
use Rattle.std.specs.declared.cmp.Ordering.TheVariants.{Less, Equal}
use Rattle.point_core.specs.declared.any_type.AnyType.{AnyType}
use Rattle.point_core.specs.Points.{line_of}
use Rattle.interval_core.specs.Members.{Span}
use Rattle.cell_packing.specs.Covering.{Among}
use Rattle.cell_boxes.specs.Rows.{IsRow}
use Rattle.value_core.specs.declared.kind.Kind.TheVariants.{Span as SpanOf}
use Rattle.value_core.specs.Attributes.{value_at}
use Rattle.value_core.specs.Values.{Row, row_cmp, interval, fits}
use Rattle.relation_core.specs.Agreement.{part_of}
use Rattle.u_set.specs.Apart.{span_in}
use Rattle.u_join.specs.declared.standing.Standing.{Standing}

-- a row, its values at the positions of the key, and its interval
abbrev pub Stood : Type 0
Stood = Row × Row × Span

abbrev pub stood : List ℕ → ℕ → Row → Stood
stood key at x = (x, part_of key x, span_in at x)

-- what a row with its key and its ends is seen as
abbrev pub seen : Standing → Stood
seen r = (r.row.now, part_of r.key.now r.row.now, (r.begin, r.end))

-- by the key, and then by where the interval begins
abbrev pub stood_cmp : Stood → Stood → Ordering
stood_cmp a b = ordering_then (row_cmp a.1 b.1) (int_cmp a.2.0 b.2.0)

-- ---- numbers

-- p comes before q, or is q if `too`
abbrev pub IsUpTo : Bool → ℤ → ℤ → Type 0
IsUpTo true p q = p ≤ℤ q
IsUpTo false p q = p <ℤ q

-- q comes after p, or is p unless `strict`
abbrev pub IsFrom : Bool → ℤ → ℤ → Type 0
IsFrom true p q = p <ℤ q
IsFrom false p q = p ≤ℤ q

-- what two intervals have in common, where they meet
abbrev pub met : Span → Span → Span
met i j = (int_max i.0 j.0, int_min i.1 j.1)

abbrev pub Meet : Span → Span → Type 0
Meet i j = (i.0 ≤ℤ j.1) × (j.0 ≤ℤ i.1)

-- ---- lists of things that are seen as rows

module _ {A : Type 0} (see : A → Stood) where
  -- they stand by their keys, and those of a key by where they begin
  abbrev pub Ascend : List A → Type 0
  Ascend rows = (i j : ℕ) (x y : A) → i ≤ j → IsRow rows i x → IsRow rows j y
      → (row_cmp (see x).1 (see y).1 ≡ Less) ⊎ ((row_cmp (see x).1 (see y).1 ≡ Equal) × ((see x).2.0 ≤ℤ (see y).2.0))

module _ {A : Type 0} (see : A → Stood) where
  -- no interval ends before it begins
  abbrev pub HaveOrder : List A → Type 0
  HaveOrder rows = (i : ℕ) (x : A) → IsRow rows i x → (see x).2.0 ≤ℤ (see x).2.1

-- it is of a lesser key, or of the same and begins before the number, or at it if `too`
abbrev pub IsBehind : Bool → Row → ℤ → Stood → Type 0
IsBehind too key p y = (row_cmp y.1 key ≡ Less) ⊎ ((row_cmp y.1 key ≡ Equal) × IsUpTo too y.2.0 p)

-- y is of the key of x and begins within it, after its first number if `strict`
abbrev pub IsWithin : Bool → Stood → Stood → Type 0
IsWithin strict x y = (row_cmp y.1 x.1 ≡ Equal) × IsFrom strict x.2.0 y.2.0 × (y.2.0 ≤ℤ x.2.1)

module _ {A : Type 0} (see : A → Stood) where
  -- the first n are behind
  abbrev pub AreBehind : Bool → Row → ℤ → List A → ℕ → Type 0
  AreBehind too key p rows n = (j : ℕ) (y : A) → IsRow rows j y → j < n → IsBehind too key p (see y)

  -- those from n on are not
  abbrev pub AreAhead : Bool → Row → ℤ → List A → ℕ → Type 0
  AreAhead too key p rows n = (j : ℕ) (y : A) → IsRow rows j y → n ≤ j → IsBehind too key p (see y) → ⊥

  -- those that begin within x are the ones from `first` up to before `end`
  abbrev pub AreWithin : Bool → Stood → List A → ℕ → ℕ → Type 0
  AreWithin strict x rows first end = (j : ℕ) (y : A) → IsRow rows j y → ((first ≤ j) × (j < end)) ↔ IsWithin strict x (see y)

  -- the row p.1 of `rows` begins within the row p.0 of `from`
  abbrev pub IsLater : Bool → List A → List A → ℕ × ℕ → Type 0
  IsLater strict from rows p = (x : A) × (y : A) × IsRow from p.0 x × IsRow rows p.1 y × IsWithin strict (see x) (see y)

module _ {A : Type 0} (see : A → Stood) where
  -- the row p.0 of the one and the row p.1 of the other have one key and meet
  abbrev pub IsMeeting : List A → List A → ℕ × ℕ → Type 0
  IsMeeting left right p = (x : A) × (y : A) × IsRow left p.0 x × IsRow right p.1 y × (row_cmp (see x).1 (see y).1 ≡ Equal) × Meet (see x).2 (see y).2

-- ---- the rows that pairs give

-- the values at the places among those of both, with what both intervals, which are of the type, have in common at a position
abbrev pub made_row : List ℕ → AnyType → ℕ → ℕ → ℕ → Row → Row → Row
made_row places t at here there x y = set (part_of places (x ++ y)) at (interval (line_of t) (met (span_in here x) (span_in there y)))

-- the row of a number
abbrev pub row_at : List Standing → ℕ → Row
row_at rows i = get_or (map (λ r. r.row.now) rows) i []

-- the row that the rows of two numbers give
abbrev pub pair_row : List ℕ → AnyType → ℕ → ℕ → ℕ → List Standing → List Standing → ℕ × ℕ → Row
pair_row places t at here there left right p = made_row places t at here there (row_at left p.0) (row_at right p.1)

-- the interval of each is of the type, and is the one with which it is seen
abbrev pub AreOfType : AnyType → ℕ → List Standing → Type 0
AreOfType t at rows = (i : ℕ) (x : Standing) → IsRow rows i x → IsTrue (fits (SpanOf t) (value_at x.row.now at)) × ((seen x).2 ≡ span_in at x.row.now)

-- the rows are those that f makes of rows with the same key whose intervals meet
pub record AreMade (here there : List ℕ) (at at' : ℕ) (f : Row → Row → Row) (r s rows : List Row) : Type 0 where
  pub from : (z : Row) → Among z rows → (x : Row) × (y : Row) × Among x r × Among y s × (part_of here x ≡ part_of there y) × Meet (span_in at x) (span_in at' y) × (z ≡ f x y)
  pub to : (x y : Row) → Among x r → Among y s → part_of here x ≡ part_of there y → Meet (span_in at x) (span_in at' y) → Among (f x y) rows
