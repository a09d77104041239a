use Rattle.u_set.specs.Coalescing.{AreJoined}
use Rattle.u_set.proofs.coalescing.joined.Given as goal

abbrev pub invariant-loop-row : goal.invariant-loop-row
invariant-loop-row l = record {
  can : goal.iterator-loop-row.can_next l.row-iterator;
  ends : goal.iterator-loop-row.is_finite l.row-iterator;
  rows : AreJoined l.heading l.at l.yielded l.list.items;
}
