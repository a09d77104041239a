use Rattle.std.proofs.Common.{◌≡◌, drop, map}
use Rattle.tree_core.specs.Trees.{read_aggregate}
use Rattle.node_typing.specs.Sweeps.{aggregates_name_no}
use Rattle.node_typing.proofs.sweeps.aggregates_name_no.Given as goal

abbrev pub invariant-loop-aggregate : goal.invariant-loop-aggregate
invariant-loop-aggregate l = aggregates_name_no l.commalist (map read_aggregate (drop l.aggregate-index l.aggregates)) ≡ aggregates_name_no l.commalist (map read_aggregate l.aggregates)
