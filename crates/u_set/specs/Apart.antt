-- Rows with an interval each, which stand apart where they have the same values elsewhere.
--     gap_of      the numbers that are left between two intervals at least
--     IsBeyond, AreBeyond      a row and the next one in a list where this is seen
--     AreApart      what it tells of any two rows
--     Follows, FollowsIn      a row and the next one in order of time, or of keys and time
--     outside      the positions that are not listed
use Rattle.std.specs.Prelude.{◌≡◌, ℕ, suc, ◌<◌, ◌⊎◌, ℤ, pos, ◌+ℤ◌, ◌<ℤ◌, List, [], ◌∷◌, length, get_or, IsTrue}
use Rattle.std.specs.List.{All}
use Rattle.std.specs.List.Sorted.{IsPermutation}
use Rattle.std.specs.declared.cmp.Ordering.TheVariants.{Less, Equal}
use Rattle.point_core.specs.declared.any_type.AnyType.{AnyType}
use Rattle.interval_core.specs.Members.{Span}
use Rattle.cell_packing.specs.Covering.{Among}
use Rattle.value_core.specs.declared.kind.Kind.TheVariants.{Span as SpanOf}
use Rattle.value_core.specs.Attributes.{value_at, span_of, among}
use Rattle.value_core.specs.Values.{Row, row_cmp, fits}
use Rattle.relation_core.specs.Agreement.{part_of}
use Rattle.u_set.specs.declared.apart.Gap.{Gap}
use Rattle.u_set.specs.declared.apart.Gap.TheVariants.{Zero, One}
use Rattle.u_set.specs.Boxes.{unless}

-- the numbers that are left between two intervals at least
abbrev pub gap_of : Gap → ℤ
gap_of Zero = pos 0
gap_of One = pos 1

-- the row's interval at a position
abbrev pub span_in : ℕ → Row → Span
span_in at row = span_of (value_at row at)

-- the row has an interval of some type at the position
abbrev pub HasInterval : ℕ → Row → Type 0
HasInterval at row = (t : AnyType) × IsTrue (fits (SpanOf t) (value_at row at))

-- ---- any two rows

-- one ends before the other begins, with the gap between them
abbrev pub AreParted : Gap → Span → Span → Type 0
AreParted gap i j = ((i.1 +ℤ gap_of gap) <ℤ j.0) ⊎ ((j.1 +ℤ gap_of gap) <ℤ i.0)

-- two rows with the same values at the label's positions are one, or their intervals are parted
pub record AreApart (label : List ℕ) (at : ℕ) (gap : Gap) (rows : List Row) : Type 0 where
  pub parted : (x y : Row) → Among x rows → Among y rows → part_of label x ≡ part_of label y → (x ≡ y) ⊎ AreParted gap (span_in at x) (span_in at y)

-- ---- a row and the next one

-- y has later values than x at the label's positions, or the same and begins after the end of x, with the gap between them
abbrev pub IsBeyond : List ℕ → ℕ → Gap → Row → Row → Type 0
IsBeyond label at gap x y =
    let order = row_cmp (part_of label x) (part_of label y) in
    (order ≡ Less) ⊎ ((order ≡ Equal) × (((span_in at x).1 +ℤ gap_of gap) <ℤ (span_in at y).0))

-- y begins after the end of x, and with a point between where both have the same values at the label's positions
abbrev pub Follows : List ℕ → ℕ → Row → Row → Type 0
Follows label at x y =
    let order = row_cmp (part_of label x) (part_of label y) in
    ((span_in at x).1 <ℤ (span_in at y).0) × (order ≡ Equal → ((span_in at x).1 +ℤ gap_of One) <ℤ (span_in at y).0)

-- y is of a later key than x, or of the same and follows it in time
abbrev pub FollowsIn : List ℕ → List ℕ → ℕ → Row → Row → Type 0
FollowsIn key label at x y =
    let order = row_cmp (part_of key x) (part_of key y) in
    (order ≡ Less) ⊎ ((order ≡ Equal) × Follows label at x y)

-- each row has an interval, and each but the first is beyond the one before it
pub record AreBeyond (label : List ℕ) (at : ℕ) (gap : Gap) (rows : List Row) : Type 0 where
  pub spans : All (HasInterval at) rows
  pub beyond : (i : ℕ) (d : Row) → suc i < length rows → IsBeyond label at gap (get_or rows i d) (get_or rows (suc i) d)

-- the rows in some order are so
pub record IsChain (label : List ℕ) (at : ℕ) (gap : Gap) (rows : List Row) : Type 0 where
  pub list : List Row
  pub moved : IsPermutation rows list
  pub beyond : AreBeyond label at gap list

-- ---- positions

-- the positions of a list's elements that are not listed; the first element stands at n
abbrev pub outside_from : {X : Type 0} → ℕ → List ℕ → List X → List ℕ
outside_from n commalist [] = []
outside_from n commalist (x ∷ xs) = unless (among commalist n) n (outside_from (suc n) commalist xs)

abbrev pub outside : {X : Type 0} → List ℕ → List X → List ℕ
outside commalist xs = outside_from 0 commalist xs
