use Rattle.std.proofs.Common.{ℕ, ◌<◌, ◌≤◌, ◌-◌}
use Rattle.cell_sweep.specs.PackedRows.{span_of}
use Rattle.cell_sweep.specs.Rows.{sides_of}
use Rattle.cell_sweep.proofs.parted.has_cells.Given as goal

abbrev pub decreases-loop-side : goal.decreases-loop-side
decreases-loop-side l = l.sides - l.side

abbrev pub invariant-loop-side : goal.invariant-loop-side
invariant-loop-side l = record {
  within : l.side ≤ l.sides;
  cells : (s : ℕ) → s < l.side → (span_of (sides_of l.boxes) s l.row).0 < (span_of (sides_of l.boxes) s l.row).1;
}
