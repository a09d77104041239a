-- One side on which each number from one on is a cell.
--     counted_from      its grid
--     LiesIn      a box of one side that lies between two numbers
--     has_some      the row has a cell
use Rattle.std.specs.Prelude.{ℤ, ◌≤ℤ◌, Bool, List, [], ◌∷◌, get_or}
use Rattle.interval_core.specs.Members.{Span}
use Rattle.value_core.specs.Values.{Row}
use Rattle.cell_packing.specs.Packed.{no_cells}
use Rattle.cell_boxes.specs.Common.{has_cell}
use Rattle.cell_boxes.specs.Rows.{PlainCellBox}

-- there are no cuts, and the cell 0 is the number itself
abbrev pub counted_from : ℤ → List (List ℤ × ℤ)
counted_from first = ([], first) ∷ []

-- there is one interval, and no number of it is outside
abbrev pub LiesIn : Span → List Span → Type 0
LiesIn all [] = ⊥
LiesIn all (i ∷ []) = (all.0 ≤ℤ i.0) × (i.0 ≤ℤ i.1) × (i.1 ≤ℤ all.1)
LiesIn all (i ∷ j ∷ is) = ⊥

-- whether the first side of the row has a cell
abbrev pub has_some : PlainCellBox Row → Bool
has_some x = has_cell (get_or x.1 0 no_cells)
