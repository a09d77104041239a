-- The points of boxes, listed and counted.
use Rattle.std.specs.Prelude.{ℕ, ◌+◌, ◌*◌, ℤ, ◌≤ℤ◌, List, [], ◌∷◌, map, flat_map, length}
use Rattle.std.specs.declared.cmp.Ordering.{Ordering}
use Rattle.std.specs.Ordering.{int_cmp, ordering_then}
use Rattle.std.specs.Cmp.Lexicographic.{slice_cmp}
use Rattle.interval_core.specs.Members.{Span, members, at_point}
use Rattle.cell_packing.specs.Boxed.{Boxed}

-- the places of a box
abbrev pub grid_points : List Span → List (List ℤ)
grid_points [] = [] ∷ []
grid_points (i ∷ is) = flat_map (λ p. map (λ ps. p ∷ ps) (grid_points is)) (members i)

-- a label at a place
abbrev pub Placed : Type 0 → Type 0
Placed P = P × List ℤ

-- the labels of the boxes at their places, box after box
abbrev pub listing : {P : Type 0} → List (Boxed P) → List (Placed P)
listing rows = flat_map (λ x. map (λ ps. (x.0, ps)) (grid_points x.1)) rows

-- by label, and then by numbers
abbrev pub placed_cmp : {P : Type 0} → (P → P → Ordering) → Placed P → Placed P → Ordering
placed_cmp order a b = ordering_then (order a.0 b.0) (slice_cmp int_cmp a.1 b.1)

-- the box of the one place
abbrev pub point_row : {P : Type 0} → Placed P → Boxed P
point_row x = (x.0, map at_point x.1)

-- how many places a box has
abbrev pub volume : List Span → ℕ
volume [] = 1
volume (i ∷ is) = length (members i) * volume is

-- how many places the boxes have, each counted for itself
abbrev pub total : {P : Type 0} → List (Boxed P) → ℕ
total [] = 0
total (x ∷ xs) = volume x.1 + total xs

-- one number of each type
abbrev pub IsGridPointOf : {T : Type 0} → (T → ℤ) → (T → ℤ) → List T → List ℤ → Type 0
IsGridPointOf first last [] [] = Unit {0}
IsGridPointOf first last [] (p ∷ ps) = ⊥
IsGridPointOf first last (t ∷ ts) [] = ⊥
IsGridPointOf first last (t ∷ ts) (p ∷ ps) = ((first t ≤ℤ p) × (p ≤ℤ last t)) × IsGridPointOf first last ts ps
