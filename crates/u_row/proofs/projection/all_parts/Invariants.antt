use Rattle.std.proofs.Common.{◌≡◌, take, map}
use Rattle.relation_core.specs.Agreement.{part_of}
use Rattle.u_row.proofs.projection.all_parts.Given as goal

abbrev pub invariant-loop-row : goal.invariant-loop-row
invariant-loop-row l = l.list.items ≡ map (part_of l.positions) (take l.row-index l.rows)
