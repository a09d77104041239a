use Rattle.std.proofs.Common.{◌≡◌, map, take}
use Rattle.u_join.specs.RowPairs.{seen}
use Rattle.u_join.specs.Rests.{rest_row}
use Rattle.u_join.proofs.row_rests.of_rests.Given as goal

abbrev pub invariant-loop-part : goal.invariant-loop-part
invariant-loop-part l = l.rows.items ≡ map (λ z. rest_row l.point_type l.at (seen z)) (take l.part-index l.parts)
