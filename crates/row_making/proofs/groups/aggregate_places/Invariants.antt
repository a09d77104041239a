use Rattle.std.proofs.Common.{◌≡◌, ◌++◌, map, take}
use Rattle.relation_core.specs.Agreement.{names_of}
use Rattle.tree_core.specs.Trees.{read_aggregate}
use Rattle.meaning_core.specs.Places.{places}
use Rattle.meaning_core.specs.Rows.{aggregate_names}
use Rattle.row_making.proofs.groups.aggregate_places.Given as goal

abbrev pub invariant-loop-attribute : goal.invariant-loop-attribute
invariant-loop-attribute l = l.list.items ≡ places (aggregate_names (map read_aggregate l.aggregates) ++ names_of l.from) (take l.attribute-index l.to)
