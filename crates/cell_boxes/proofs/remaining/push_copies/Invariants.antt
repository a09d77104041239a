use Rattle.std.proofs.Common.{◌≡◌, ◌++◌, map}
use Rattle.cell_boxes.proofs.remaining.push_copies.Given as goal

abbrev pub invariant-loop-part : goal.invariant-loop-part
invariant-loop-part g l = record {
  can : (goal.iterator-loop-part g).can_next l.part-iterator;
  ends : (goal.iterator-loop-part g).is_finite l.part-iterator;
  items : l.out.items ≡ l.fn.out.items ++ map (λ x. (l.label, x.sides.items)) l.yielded;
}
