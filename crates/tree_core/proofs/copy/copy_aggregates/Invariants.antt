use Rattle.std.proofs.Common.{◌≡◌, map, take}
use Rattle.tree_core.specs.Trees.{read_aggregate}
use Rattle.tree_core.proofs.copy.copy_aggregates.Given as goal

abbrev pub invariant-loop-aggregate : goal.invariant-loop-aggregate
invariant-loop-aggregate l = map read_aggregate l.list.items ≡ map read_aggregate (take l.aggregate-index l.aggregate-items)
