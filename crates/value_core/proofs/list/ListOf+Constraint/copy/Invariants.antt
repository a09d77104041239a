use Rattle.std.proofs.Common.{◌≡◌, take}
use Rattle.value_core.proofs.list.ListOf+Constraint.copy.Given as goal

abbrev pub invariant-loop-constraint : goal.invariant-loop-constraint
invariant-loop-constraint l = l.list.items ≡ take l.constraint-index l.constraint-items
