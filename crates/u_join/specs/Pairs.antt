-- Boxes of two lists that go together: their labels have one part, and their sides are the same.
--     meet      whether two boxes go together
--     matched_boxes, unmatched_boxes, joined_boxes      what the operators give of boxes
--     joined_label      values of two labels at places among those of both
--     IsMatchedAt, IsUnmatchedAt, IsJoinedAt      what they give at a place
use Rattle.std.specs.Prelude.{◌≡◌, ℕ, Bool, not, List, ◌++◌, map, filter, flat_map}
use Rattle.std.specs.List.{list_any}
use Rattle.std.specs.Ordering.{eq_by_cmp}
use Rattle.cell_packing.specs.Boxed.{Boxed, boxed_cmp}
use Rattle.relation_core.specs.Agreement.{part_of}
use Rattle.value_core.specs.Values.{Row, row_cmp}
use Rattle.u_row.specs.Labels.{relabelled}

-- whether the boxes are the same under the parts of their labels at these positions
abbrev pub meet : List ℕ → List ℕ → Boxed Row → Boxed Row → Bool
meet here there x y = eq_by_cmp (boxed_cmp row_cmp) (relabelled (part_of here) x) (relabelled (part_of there) y)

-- the boxes of the one that go together with some box of the other, and those that go with none
abbrev pub matched_boxes : List ℕ → List ℕ → List (Boxed Row) → List (Boxed Row) → List (Boxed Row)
matched_boxes here there r s = filter (λ x. list_any (meet here there x) s) r

abbrev pub unmatched_boxes : List ℕ → List ℕ → List (Boxed Row) → List (Boxed Row) → List (Boxed Row)
unmatched_boxes here there r s = filter (λ x. not (list_any (meet here there x) s)) r

-- the values at the places among those of both labels
abbrev pub joined_label : List ℕ → Row → Row → Row
joined_label places a b = part_of places (a ++ b)

-- a box of the one and a box of the other that go together, under the label that f makes of theirs
abbrev pub joined_box : (Row → Row → Row) → Boxed Row → Boxed Row → Boxed Row
joined_box f x y = (f x.0 y.0, x.1)

-- each box of the one with each box of the other that goes together with it
abbrev pub joined_boxes : List ℕ → List ℕ → (Row → Row → Row) → List (Boxed Row) → List (Boxed Row) → List (Boxed Row)
joined_boxes here there f r s = flat_map (λ x. map (joined_box f x) (filter (meet here there x) s)) r

-- ---- at a place, where A are the labels of the one and B those of the other there

-- some label of the other has the part of this one
abbrev pub HasPartner : List ℕ → List ℕ → (Row → Type 0) → Row → Type 0
HasPartner here there B l = (m : Row) × B m × (part_of here l ≡ part_of there m)

abbrev pub IsMatchedAt : List ℕ → List ℕ → (Row → Type 0) → (Row → Type 0) → Row → Type 0
IsMatchedAt here there A B l = A l × HasPartner here there B l

abbrev pub IsUnmatchedAt : List ℕ → List ℕ → (Row → Type 0) → (Row → Type 0) → Row → Type 0
IsUnmatchedAt here there A B l = A l × (HasPartner here there B l → ⊥)

-- it is what a label of the one and a label of the other with the same part give
abbrev pub IsJoinedAt : List ℕ → List ℕ → (Row → Row → Row) → (Row → Type 0) → (Row → Type 0) → Row → Type 0
IsJoinedAt here there f A B l = (a : Row) × (b : Row) × A a × B b × (part_of here a ≡ part_of there b) × (l ≡ f a b)
