use Rattle.std.proofs.Common.{◌≡◌, map, take}
use Rattle.tree_core.specs.Trees.{read_sets}
use Rattle.tree_core.proofs.copy.copy_tuples.Given as goal

abbrev pub invariant-loop-tuple : goal.invariant-loop-tuple
invariant-loop-tuple l = map read_sets l.list.items ≡ map read_sets (take l.tuple-index l.tuple-items)
