use Rattle.std.proofs.Common.{◌≡◌, map, take}
use Rattle.u_join.specs.RowPairs.{stood, seen}
use Rattle.u_join.proofs.standing.standing_rows.Given as goal

abbrev pub invariant-loop-row : goal.invariant-loop-row
invariant-loop-row l = map seen l.list.items ≡ map (stood l.key l.at) (take l.row-index l.rows)
