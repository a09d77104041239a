use Rattle.std.proofs.Common.{map}
use Rattle.u_set.specs.Coalescing.{AreJoined}
use Rattle.u_set.proofs.coalescing.joined_in_turn.Given as goal

abbrev pub invariant-loop-own : goal.invariant-loop-own
invariant-loop-own l = record {
  can : goal.iterator-loop-own.can_next l.own-iterator;
  ends : goal.iterator-loop-own.is_finite l.own-iterator;
  rows : AreJoined l.heading l.at (map (λ r. r.row) l.yielded) l.list.items;
}
