-- What is left of the intervals of rows, where the intervals of other rows with the same key are taken away.
--     HasNumber, Covers      a number of an interval, and of some row of a key
--     Stands      a row that comes no later than another
--     AreRuns      rows that cover what others cover
--     IsPast, ArePast      rows that end before another begins
--     AreMeeting      the rows among which are all that meet another of their key
--     IsRest, AreRests      what is left of a row, and of all
--     rest_at, AreLeft      the rows with what is left of their intervals
use Rattle.std.specs.Prelude.{◌≡◌, ℕ, ◌<◌, ◌≤◌, ◌⊎◌, ◌↔◌, ℤ, pos, ◌-ℤ◌, ◌<ℤ◌, ◌≤ℤ◌, List, [], ◌∷◌, ◌++◌, length, set}
use Rattle.std.specs.declared.cmp.Ordering.TheVariants.{Less, Equal}
use Rattle.point_core.specs.declared.any_type.AnyType.{AnyType}
use Rattle.point_core.specs.Points.{line_of, first_of, last_of}
use Rattle.interval_core.specs.Members.{Span}
use Rattle.cell_packing.specs.Covering.{Among}
use Rattle.cell_boxes.specs.Rows.{IsRow}
use Rattle.value_core.specs.Values.{Row, row_cmp, interval}
use Rattle.relation_core.specs.Agreement.{part_of}
use Rattle.u_set.specs.Apart.{span_in}
use Rattle.u_join.specs.RowPairs.{Stood, Ascend, HaveOrder}

-- p is a number of the interval
abbrev pub HasNumber : Span → ℤ → Type 0
HasNumber i p = (i.0 ≤ℤ p) × (p ≤ℤ i.1)

-- a has a lesser key than b, or the same and begins no later
abbrev pub Stands : Stood → Stood → Type 0
Stands a b = (row_cmp a.1 b.1 ≡ Less) ⊎ ((row_cmp a.1 b.1 ≡ Equal) × (a.2.0 ≤ℤ b.2.0))

-- y has a lesser key than x, or the same and ends before x begins
abbrev pub IsPast : Stood → Stood → Type 0
IsPast x y = (row_cmp y.1 x.1 ≡ Less) ⊎ ((row_cmp y.1 x.1 ≡ Equal) × (y.2.1 <ℤ x.2.0))

-- ---- lists of things that are seen as rows

module _ {A : Type 0} (see : A → Stood) where
  -- some row of the key has the number
  abbrev pub Covers : List A → Row → ℤ → Type 0
  Covers rows key p = (y : A) × Among y rows × ((see y).1 ≡ key) × HasNumber (see y).2 p

  -- no row comes later
  abbrev pub AreUpTo : List A → Stood → Type 0
  AreUpTo rows x = (y : A) → Among y rows → Stands (see y) x

  -- the first n are past
  abbrev pub ArePast : Stood → List A → ℕ → Type 0
  ArePast x rows n = (j : ℕ) (y : A) → IsRow rows j y → j < n → IsPast x (see y)

module _ {A : Type 0} (see : A → Stood) where
  -- the new rows cover what the old ones and x do, and come no later than these
  pub record IsAdded (old : List A) (x : A) (new : List A) : Type 0 where
    pub order : Ascend see new
    pub intervals : HaveOrder see new
    pub covers : (key : Row) (p : ℤ) → Covers see new key p ↔ (Covers see old key p ⊎ (((see x).1 ≡ key) × HasNumber (see x).2 p))
    pub up : (w : Stood) → AreUpTo see old w → Stands (see x) w → AreUpTo see new w

  -- the runs stand in order, and cover what the rows do
  pub record AreRuns (rows runs : List A) : Type 0 where
    pub order : Ascend see runs
    pub intervals : HaveOrder see runs
    pub covers : (key : Row) (p : ℤ) → Covers see runs key p ↔ Covers see rows key p

  -- from `first` up to before `end` stand rows of the key of x that begin no later than it ends, and all of its key that have a number
  -- of it
  pub record AreMeeting (x : Stood) (rows : List A) (first end : ℕ) : Type 0 where
    pub end_within : end ≤ length rows
    pub inside : (j : ℕ) (y : A) → IsRow rows j y → first ≤ j → j < end → ((see y).1 ≡ x.1) × ((see y).2.0 ≤ℤ x.2.1)
    pub all : (j : ℕ) (y : A) (p : ℤ) → IsRow rows j y → (see y).1 ≡ x.1 → HasNumber (see y).2 p → HasNumber x.2 p → (first ≤ j) × (j < end)

  -- z is x with a part of its interval that no row of its key covers
  pub record IsRest (x : Stood) (rows : List A) (z : Stood) : Type 0 where
    pub row : z.0 ≡ x.0
    pub ordered : z.2.0 ≤ℤ z.2.1
    pub free : (p : ℤ) → HasNumber z.2 p → HasNumber x.2 p × (Covers see rows x.1 p → ⊥)

module _ {A : Type 0} (see : A → Stood) where
  -- some of the parts of x has the number
  abbrev pub IsGiven : Stood → List A → List Stood → ℤ → Type 0
  IsGiven x rows parts p = (z : Stood) × Among z parts × IsRest see x rows z × HasNumber z.2 p

module _ {A : Type 0} (see : A → Stood) where
  -- the new parts are the old ones and those of x, up to before a number all
  pub record AreCutTo (x : Stood) (rows : List A) (to : ℤ) (old new : List Stood) : Type 0 where
    pub kept : (z : Stood) → Among z old → Among z new
    pub from : (z : Stood) → Among z new → Among z old ⊎ IsRest see x rows z
    pub all : (p : ℤ) → HasNumber x.2 p → p <ℤ to → (Covers see rows x.1 p → ⊥) → IsGiven see x rows new p

  -- the parts are all that is left of the first n of the lefts
  pub record AreRests (lefts rights : List A) (n : ℕ) (parts : List Stood) : Type 0 where
    pub from : (z : Stood) → Among z parts → (i : ℕ) × (x : A) × IsRow lefts i x × IsRest see (see x) rights z
    pub all : (i : ℕ) (x : A) (p : ℤ) → i < n → IsRow lefts i x → HasNumber (see x).2 p → (Covers see rights (see x).1 p → ⊥) → IsGiven see (see x) rights parts p

-- x from a number up to before another
abbrev pub part : Stood → ℤ → ℤ → Stood
part x from to = (x.0, x.1, (from, to -ℤ pos 1))

-- the new parts are the old ones and this one, if there is a number between
abbrev pub IsCut : Stood → ℤ → ℤ → List Stood → List Stood → Type 0
IsCut x from to old new = (from <ℤ to → new ≡ old ++ part x from to ∷ []) × (to ≤ℤ from → new ≡ old)

-- ---- rows of relations

-- the row with another interval of the type at the position
abbrev pub rest_at : AnyType → ℕ → Row → Span → Row
rest_at t at x i = set x at (interval (line_of t) i)

-- the row with what is left of its interval
abbrev pub rest_row : AnyType → ℕ → Stood → Row
rest_row t at z = rest_at t at z.0 z.2

-- the row has the position, and the interval's ends are points of the type, in order
abbrev pub IsOfType : AnyType → ℕ → Stood → Type 0
IsOfType t at z = (at < length z.0) × (first_of t ≤ℤ z.2.0) × (z.2.0 ≤ℤ z.2.1) × (z.2.1 ≤ℤ last_of t)

-- all are so
abbrev pub AreOfOneType : {A : Type 0} → (A → Stood) → AnyType → ℕ → List A → Type 0
AreOfOneType see t at rows = (i : ℕ) (x : _) → IsRow rows i x → IsOfType t at (see x)

-- no row of s has the same values as x at positions and the number in its interval
abbrev pub IsFree : List ℕ → List ℕ → ℕ → List Row → Row → ℤ → Type 0
IsFree here there at s x p = (y : Row) → Among y s → part_of here x ≡ part_of there y → HasNumber (span_in at y) p → ⊥

-- the rows are those that f makes of rows of r with the numbers of their intervals that are free
pub record AreLeft (here there : List ℕ) (at at' : ℕ) (f : Row → Span → Row) (r s rows : List Row) : Type 0 where
  pub from : (z : Row) → Among z rows → (x : Row) × (i : Span) × Among x r × (z ≡ f x i) × (i.0 ≤ℤ i.1) × ((p : ℤ) → HasNumber i p → HasNumber (span_in at x) p × IsFree here there at' s x p)
  pub all : (x : Row) (p : ℤ) → Among x r → HasNumber (span_in at x) p → IsFree here there at' s x p → (i : Span) × Among (f x i) rows × HasNumber i p
