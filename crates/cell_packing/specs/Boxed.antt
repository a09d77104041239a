-- Labelled boxes as rows, unpacked and packed on their sides. A box is one interval for each side.
use Rattle.std.specs.Prelude.{ℕ, zero, suc, List, [], ◌∷◌, get_or, set, ℤ}
use Rattle.std.specs.declared.cmp.Ordering.{Ordering}
use Rattle.std.specs.Ordering.{int_cmp, ordering_then}
use Rattle.std.specs.Cmp.Lexicographic.{slice_cmp}
use Rattle.interval_core.specs.Members.{Span}
use Rattle.interval_core.specs.Packing.{Side, unpack, pack}
use Rattle.base_core.specs.Sets.{in_order}
use Rattle.cell_packing.specs.Covering.{Among}
use Rattle.cell_packing.specs.Packed.{nowhere, Has}

abbrev pub Boxed : Type 0 → Type 0
Boxed P = P × List Span

-- by the first number, and then by the last
abbrev pub span_cmp : Span → Span → Ordering
span_cmp a b = ordering_then (int_cmp a.0 b.0) (int_cmp a.1 b.1)

-- by label, and then by sides
abbrev pub boxed_cmp : {P : Type 0} → (P → P → Ordering) → Boxed P → Boxed P → Ordering
boxed_cmp order a b = ordering_then (order a.0 b.0) (slice_cmp span_cmp a.1 b.1)

-- the side of a number, as an interval attribute
abbrev pub side : {P : Type 0} → ℕ → Side (Boxed P)
side j = record { of = λ x. get_or x.1 j nowhere; put = λ x i. (x.0, set x.1 j i) }

-- the k sides from n on
abbrev pub sides_from : {P : Type 0} → ℕ → ℕ → List (Side (Boxed P))
sides_from n zero = []
sides_from n (suc k) = side n ∷ sides_from (suc n) k

-- labelled boxes unpacked, and packed, on all their sides
abbrev pub unpacked_boxes : {P : Type 0} → (P → P → Ordering) → ℕ → List (Boxed P) → List (Boxed P)
unpacked_boxes order k r = unpack (boxed_cmp order) (sides_from 0 k) (in_order (boxed_cmp order) r)

abbrev pub packed_boxes : {P : Type 0} → (P → P → Ordering) → ℕ → List (Boxed P) → List (Boxed P)
packed_boxes order k r = pack (boxed_cmp order) (sides_from 0 k) (in_order (boxed_cmp order) r)

-- some box of the label has the place
abbrev pub InBoxes : {P : Type 0} → List (Boxed P) → P → List ℤ → Type 0
InBoxes r l grid_point = (x : List Span) × Among (l, x) r × Has x grid_point
