use Rattle.std.proofs.Common.{◌≡◌, map, take}
use Rattle.u_join.specs.RowPairs.{pair_row}
use Rattle.u_join.proofs.row_pairs.of_pairs.Given as goal

abbrev pub invariant-loop-pair : goal.invariant-loop-pair
invariant-loop-pair l = l.rows.items ≡ map (pair_row l.sources.places.now l.sources.point_type l.sources.at l.sources.here l.sources.there l.left l.right) (take l.pair-index l.pairs)
