use Rattle.std.proofs.Common.{◌≡◌, None, replicate}
use Rattle.assign_core.proofs.changes.none_yet.Given as goal

abbrev pub invariant-loop-turn : goal.invariant-loop-turn
invariant-loop-turn l = l.changes.items ≡ replicate l._turn None
