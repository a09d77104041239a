use Rattle.std.proofs.Common.{◌≡◌, map}
use Rattle.u_set.proofs.coalescing.with_turns.Given as goal

abbrev pub invariant-loop-row : goal.invariant-loop-row
invariant-loop-row l = record {
  can : goal.iterator-loop-row.can_next l.row-iterator;
  ends : goal.iterator-loop-row.is_finite l.row-iterator;
  rows : map (λ r. r.row) l.list.items ≡ l.yielded;
}
