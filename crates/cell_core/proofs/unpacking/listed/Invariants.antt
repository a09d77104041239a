use Rattle.std.proofs.Common.{◌≡◌, map, take}
use Rattle.cell_core.specs.Cells.{row_numbers}
use Rattle.cell_core.specs.GridPoints.{listing}
use Rattle.cell_core.proofs.unpacking.listed.Given as goal

abbrev pub invariant-loop-row : goal.invariant-loop-row
invariant-loop-row g l = l.out.items ≡ listing (map (row_numbers g.T.PointType.number_of) (take l.row-index l.rows))
