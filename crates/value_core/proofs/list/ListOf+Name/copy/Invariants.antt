use Rattle.std.proofs.Common.{◌≡◌, take}
use Rattle.value_core.proofs.list.ListOf+Name.copy.Given as goal

abbrev pub invariant-loop-name : goal.invariant-loop-name
invariant-loop-name l = l.list.items ≡ take l.name-index l.name-items
