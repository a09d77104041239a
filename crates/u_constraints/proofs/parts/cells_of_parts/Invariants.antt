use Rattle.std.proofs.Common.{◌≡◌, map, take}
use Rattle.relation_core.specs.Agreement.{part_of}
use Rattle.u_row.specs.Labels.{relabelled}
use Rattle.u_constraints.proofs.parts.cells_of_parts.Given as goal

abbrev pub invariant-loop-row : goal.invariant-loop-row
invariant-loop-row l = l.out.items ≡ map (relabelled (part_of l.positions)) (take l.row-index l.rows)
