use Rattle.std.proofs.Common.{ℕ, ◌<◌, ◌≤◌, ◌-◌, length}
use Rattle.cell_boxes.specs.Rows.{IsRow, IsBefore, PlainCellBox}
use Rattle.cell_boxes.proofs.search.count_before.Given as goal

abbrev pub decreases-loop-count : goal.decreases-loop-count
decreases-loop-count g l = length l.rows - l.count

abbrev pub invariant-loop-count : goal.invariant-loop-count
invariant-loop-count g l = record {
  within : l.count ≤ length l.rows;
  before : (i : ℕ) (x : PlainCellBox _) → IsRow l.rows i x → i < l.count → IsBefore g.P.Label.order l.key l.cell x;
}
