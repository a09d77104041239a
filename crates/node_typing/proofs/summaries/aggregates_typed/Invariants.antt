use Rattle.std.proofs.Common.{◌≡◌, ◌∷◌, [], drop}
use Rattle.utd_syntax.specs.Read.{read_aggregate, read_aggregate_list}
use Rattle.node_typing.specs.Summaries.{aggregates_typed, summed}
use Rattle.node_typing.proofs.summaries.aggregates_typed.Given as goal

abbrev pub invariant-loop-aggregate : goal.invariant-loop-aggregate
invariant-loop-aggregate l =
    aggregates_typed l.types l.from (summed l.before) (read_aggregate_list (drop l.aggregate-index l.more)) ≡ aggregates_typed l.types l.from ([], l.groups) (read_aggregate l.first ∷ read_aggregate_list l.more)
