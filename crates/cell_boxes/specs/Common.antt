-- The cells that two boxes have in common.
use Rattle.std.specs.Prelude.{◌≡◌, ℕ, ◌≤◌, max, min, nat_lt, Bool, true, List, [], ◌∷◌, get_or}
use Rattle.std.specs.List.{list_all}
use Rattle.cell_packing.specs.Packed.{no_cells}
use Rattle.cell_packing.specs.Live.{has_grid_point}

-- the box has the place
abbrev pub At : List (ℕ × ℕ) → List ℕ → Type 0
At y grid_point = has_grid_point y grid_point ≡ true

-- the first cell of the first side, and the one after its last; a box without sides, which has one place, is held to have the cell 0
abbrev pub first_of : List (ℕ × ℕ) → ℕ × ℕ
first_of y = get_or y 0 (0, 1)

-- the cells of both
abbrev pub both : ℕ × ℕ → ℕ × ℕ → ℕ × ℕ
both x y = (max x.0 y.0, min x.1 y.1)

-- the same side by side
abbrev pub common : List (ℕ × ℕ) → List (ℕ × ℕ) → List (ℕ × ℕ)
common [] ys = []
common (x ∷ xs) [] = []
common (x ∷ xs) (y ∷ ys) = both x y ∷ common xs ys

-- no side of z ends after that of x
abbrev pub EndsBy : List (ℕ × ℕ) → List (ℕ × ℕ) → Type 0
EndsBy x z = (s : ℕ) → (get_or z s no_cells).1 ≤ (get_or x s no_cells).1

-- whether there is a cell
abbrev pub has_cell : ℕ × ℕ → Bool
has_cell s = nat_lt s.0 s.1

-- each side has a cell
abbrev pub HaveCells : List (ℕ × ℕ) → Type 0
HaveCells y = list_all has_cell y ≡ true
