-- Slices from the last side inward: what the live rows give at a place, and the rows that are packed.
use Rattle.std.specs.Prelude.{◌≡◌, ℕ, Bool, true, false, ◌&&◌, ◌≢◌, ◌⊎◌, List, [], ◌∷◌, get_or, length, nat_le, nat_lt}
use Rattle.std.specs.List.{filter}
use Rattle.cell_packing.specs.Packed.{IsIndexPackedTo, no_cells}

-- whether the cells have the cell i
abbrev pub span_has : ℕ × ℕ → ℕ → Bool
span_has x i = nat_le x.0 i && nat_lt i x.1

-- the box of the row r
abbrev pub box : List (List (ℕ × ℕ)) → ℕ → List (ℕ × ℕ)
box boxes r = get_or boxes r []

-- whether the side of the row r has the cell
abbrev pub side_has : List (List (ℕ × ℕ)) → ℕ → ℕ → ℕ → Bool
side_has boxes side cell r = span_has (get_or (box boxes r) side no_cells) cell

-- whether the first sides have the place
abbrev pub has_grid_point : List (ℕ × ℕ) → List ℕ → Bool
has_grid_point y [] = true
has_grid_point [] (i ∷ is) = false
has_grid_point (x ∷ xs) (i ∷ is) = span_has x i && has_grid_point xs is

-- what f says of the live rows that have the place, and of l
abbrev pub InLive : {P : Type 0} → (P → List ℕ → List ℕ → Type 0) → List (List (ℕ × ℕ)) → List ℕ → List ℕ → P → List ℕ → Type 0
InLive f boxes left right l grid_point =
    let a = filter (λ r. has_grid_point (box boxes r) grid_point) left in
    let b = filter (λ r. has_grid_point (box boxes r) grid_point) right in
    ((a ≢ []) ⊎ (b ≢ [])) × f l a b

-- the packed rows of the first j sides
abbrev pub IsSliceRow : {P : Type 0} → ℕ → (P → List ℕ → List ℕ → Type 0) → List (List (ℕ × ℕ)) → List ℕ → List ℕ → P → List (ℕ × ℕ) → Type 0
IsSliceRow j f boxes left right l y = IsIndexPackedTo j (InLive f boxes left right l) y []

-- f holds of l and the live rows that have some place of j sides
abbrev pub IsSomewhere : {P : Type 0} → ℕ → (P → List ℕ → List ℕ → Type 0) → List (List (ℕ × ℕ)) → List ℕ → List ℕ → P → Type 0
IsSomewhere j f boxes left right l = (grid_point : List ℕ) × (length grid_point ≡ j) × InLive f boxes left right l grid_point
