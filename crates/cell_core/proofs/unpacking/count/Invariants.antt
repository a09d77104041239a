use Rattle.std.proofs.Common.{◌≡◌, ◌^◌, ◌-◌, min, map, take}
use Rattle.cell_core.specs.Cells.{row_numbers}
use Rattle.cell_core.specs.GridPoints.{total}
use Rattle.cell_core.proofs.unpacking.count.Given as goal

abbrev pub invariant-loop-row : goal.invariant-loop-row
invariant-loop-row g l = l.sum ≡ min (total (map (row_numbers g.T.PointType.number_of) (take l.row-index l.rows))) (2 ^ 128 - 1)
