use Rattle.std.proofs.Common.{◌≡◌, take}
use Rattle.tree_core.specs.Trees.{read_sets}
use Rattle.tree_core.proofs.copy.copy_sets.Given as goal

abbrev pub invariant-loop-set : goal.invariant-loop-set
invariant-loop-set l = read_sets l.list.items ≡ read_sets (take l.set-index l.set-items)
