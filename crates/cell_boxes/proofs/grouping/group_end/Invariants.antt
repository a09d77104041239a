use Rattle.std.proofs.Common.{◌≡◌, ℕ, ◌<◌, ◌≤◌, ◌-◌, length}
use Rattle.std.specs.declared.cmp.Ordering.TheVariants.{Equal}
use Rattle.cell_boxes.specs.Rows.{IsRow, PlainCellBox}
use Rattle.cell_boxes.proofs.grouping.group_end.Given as goal

abbrev pub decreases-loop-end : goal.decreases-loop-end
decreases-loop-end g l = length l.rows - l.end

abbrev pub invariant-loop-end : goal.invariant-loop-end
invariant-loop-end g l = record {
  from : l.first < l.end;
  within : l.end ≤ length l.rows;
  same : (q : ℕ) (x y : PlainCellBox _) → IsRow l.rows l.first x → IsRow l.rows q y → l.first < q → q < l.end → g.P.Label.order x.0 y.0 ≡ Equal;
}
