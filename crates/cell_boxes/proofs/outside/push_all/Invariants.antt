use Rattle.std.proofs.Common.{◌≡◌, ◌++◌}
use Rattle.cell_boxes.proofs.outside.push_all.Given as goal

abbrev pub invariant-loop-b : goal.invariant-loop-b
invariant-loop-b l = record {
  can : goal.iterator-loop-b.can_next l.b-iterator;
  ends : goal.iterator-loop-b.is_finite l.b-iterator;
  items : l.out.items ≡ l.fn.out.items ++ l.yielded;
}
