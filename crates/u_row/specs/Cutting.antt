-- Boxes cut into cells.
use Rattle.std.specs.Prelude.{ℕ, suc, ◌+◌, length, ℤ, pos, ◌-ℤ◌, ◌<ℤ◌, ◌≤ℤ◌, List, [], ◌∷◌, map, flat_map}
use Rattle.interval_core.specs.Members.{Span}

-- ascending numbers after b and not after e
abbrev pub AreCuts : ℤ → ℤ → List ℤ → Type 0
AreCuts b e [] = Unit {0}
AreCuts b e (c ∷ cs) = (b <ℤ c) × (c ≤ℤ e) × AreCuts c e cs

-- the numbers from b to e, cut before each of the cuts
abbrev pub pieces : ℤ → ℤ → List ℤ → List Span
pieces b e [] = (b, e) ∷ []
pieces b e (c ∷ cs) = (b, c -ℤ pos 1) ∷ pieces c e cs

-- the boxes of one piece for each side; the cuts of the first side of the list are those of the number j
abbrev pub cells_from : (ℕ → List ℤ) → ℕ → List Span → List (List Span)
cells_from cuts j [] = [] ∷ []
cells_from cuts j (i ∷ is) = flat_map (λ p. map (λ ps. p ∷ ps) (cells_from cuts (suc j) is)) (pieces i.0 i.1 (cuts j))

-- the cells of a box
abbrev pub cells_of : (ℕ → List ℤ) → List Span → List (List Span)
cells_of cuts box = cells_from cuts 0 box

-- how many cuts all sides of the list have
abbrev pub cuts_from : (ℕ → List ℤ) → ℕ → List Span → ℕ
cuts_from cuts j [] = 0
cuts_from cuts j (i ∷ is) = length (cuts j) + cuts_from cuts (suc j) is

-- how many cells, and how many cuts, all boxes of a list have, of which the first has the number r
abbrev pub count_cells : (ℕ → ℕ → List ℤ) → ℕ → List (List Span) → ℕ
count_cells cuts r [] = 0
count_cells cuts r (b ∷ bs) = length (cells_of (cuts r) b) + count_cells cuts (suc r) bs

abbrev pub count_cuts : (ℕ → ℕ → List ℤ) → ℕ → List (List Span) → ℕ
count_cuts cuts r [] = 0
count_cuts cuts r (b ∷ bs) = cuts_from (cuts r) 0 b + count_cuts cuts (suc r) bs

-- the cuts of each side of the list, of which the first has the number j, lie in the side
abbrev pub AreCutsFrom : (ℕ → List ℤ) → ℕ → List Span → Type 0
AreCutsFrom cuts j [] = Unit {0}
AreCutsFrom cuts j (i ∷ is) = ((i.0 ≤ℤ i.1) × AreCuts i.0 i.1 (cuts j)) × AreCutsFrom cuts (suc j) is
