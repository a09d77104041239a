use Rattle.std.proofs.Common.{◌≡◌, map, take, Ok}
use Rattle.value_core.specs.Plain.{plain}
use Rattle.relation_core.specs.Groups.{rows_at}
use Rattle.tree_core.specs.Trees.{read_aggregate}
use Rattle.meaning_core.specs.Rows.{aggregates_on}
use Rattle.row_making.proofs.aggregates.aggregates_on.Given as goal

abbrev pub invariant-loop-aggregate : goal.invariant-loop-aggregate
invariant-loop-aggregate l = aggregates_on (rows_at l.rows l.numbers) (map read_aggregate (take l.aggregate-index l.aggregates)) ≡ Ok (map plain l.values.items)
