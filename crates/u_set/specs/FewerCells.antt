-- Left and right rows over the cells of one numbering of their sides, as they are or packed label by label.
use Rattle.std.specs.Prelude.{ℕ, ℤ, List, length}
use Rattle.std.specs.declared.cmp.Ordering.{Ordering}
use Rattle.cell_core.specs.CellRows.{AreOverCells}
use Rattle.u_set.specs.Fewer.{IsSameOrPacked}

-- both are the rows over the cells of the sides, or the packed form of these
pub record AreFewerCells {T P L : Type 0} (n : P → ℤ) (has : T → P → Type 0) (high : T → ℤ) (order : L → L → Ordering) (types : List T) (left right : List (L × List (P × P)))
    (sides : List (List P × List P × List (ℕ × ℕ))) (left_rows right_rows : List (L × List (ℕ × ℕ))) : Type 0 where
  pub left_cells : List (L × List (ℕ × ℕ))
  pub right_cells : List (L × List (ℕ × ℕ))
  pub over : AreOverCells n has high types left right sides left_cells right_cells
  pub lefts : IsSameOrPacked order (length types) left_cells left_rows
  pub rights : IsSameOrPacked order (length types) right_cells right_rows
