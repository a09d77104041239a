use Rattle.std.proofs.Common.{◌≡◌, None, replicate}
use Rattle.relvar_logs.proofs.opening.ready_last.Given as goal

abbrev pub invariant-loop-turn : goal.invariant-loop-turn
invariant-loop-turn l = l.next.items ≡ replicate l._turn None
