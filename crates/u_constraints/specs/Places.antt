-- Keys point by point.
--     IsKeyAt      at each place, labels of boxes are told apart by their values at positions
use Rattle.std.specs.Prelude.{◌≡◌, ℕ, ℤ, List}
use Rattle.value_core.specs.Values.{Row}
use Rattle.relation_core.specs.Agreement.{part_of}
use Rattle.cell_packing.specs.Boxed.{Boxed, InBoxes}

-- no two of the labels that boxes have at one place have the same values at the positions
abbrev pub IsKeyAt : List ℕ → List (Boxed Row) → Type 0
IsKeyAt positions boxes =
    (l m : Row) (place : List ℤ) → InBoxes boxes l place → InBoxes boxes m place → part_of positions l ≡ part_of positions m → l ≡ m
