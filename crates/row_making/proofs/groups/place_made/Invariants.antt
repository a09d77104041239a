use Rattle.std.proofs.Common.{◌≡◌, ◌+◌, drop, map}
use Rattle.tree_core.specs.Trees.{read_aggregate}
use Rattle.meaning_core.specs.Places.{place_among}
use Rattle.meaning_core.specs.Rows.{aggregate_names}
use Rattle.row_making.proofs.groups.place_made.Given as goal

abbrev pub invariant-loop-at : goal.invariant-loop-at
invariant-loop-at l =
    place_among (aggregate_names (map read_aggregate l.aggregates)) l.name ≡ l.at + place_among (aggregate_names (map read_aggregate (drop l.at l.aggregates))) l.name
