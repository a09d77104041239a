use Rattle.std.proofs.Common.{◌≡◌, ◌++◌}
use Rattle.cell_boxes.proofs.grouping.push_rows.Given as goal

abbrev pub invariant-loop-row : goal.invariant-loop-row
invariant-loop-row g l = record {
  can : (goal.iterator-loop-row g).can_next l.row-iterator;
  ends : (goal.iterator-loop-row g).is_finite l.row-iterator;
  items : l.out.items ≡ l.fn.out.items ++ l.yielded;
}
