use Rattle.std.proofs.Common.{length, map, ◌∙◌}
use Rattle.relation_core.specs.Agreement.{names_of}
use Rattle.tree_core.specs.Trees.{PlainAggregate, read_aggregate}
use Rattle.meaning_core.specs.Rows.{aggregate_names}
use Rattle.row_making.proofs.PlaceLemmas.{place-behind, many-mapped}
use Rattle.row_making.proofs.groups.aggregate_place.Goals as goal

pub returns : goal.returns
returns c =
    let aggregates = map read_aggregate c.args.aggregates.now in
    place-behind (aggregate_names aggregates) (names_of c.args.from.now) c.args.name.now c.place_behind.result c.place_made.result (length c.args.aggregates.now)
    c.place_made.ensures (many-mapped read_aggregate c.args.aggregates.now ∙ many-mapped (λ (a : PlainAggregate). a.name) aggregates) c.place_behind.ensures
