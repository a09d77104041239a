use Rattle.std.proofs.Common.{◌≡◌, ℕ, ◌<◌, length, [], map, get_or}
use Rattle.cell_sweep.specs.Rows.{sides_of}
use Rattle.cell_core.specs.Cells.{cells_at}
use Rattle.cell_core.proofs.grids.cell_boxes.Given as goal

abbrev pub invariant-loop-r : goal.invariant-loop-r
invariant-loop-r g l = record {
  length : length l.out.items ≡ l.r;
  boxes : (r : ℕ) → r < l.r → get_or (sides_of l.out.items) r [] ≡ map (cells_at r) l.sides;
}
