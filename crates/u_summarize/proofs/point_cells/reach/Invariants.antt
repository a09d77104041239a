use Rattle.std.proofs.Common.{◌≤ℤ◌, take}
use Rattle.std.specs.List.{All}
use Rattle.cell_core.specs.Cells.{box_numbers}
use Rattle.u_summarize.specs.PointCells.{LiesIn}
use Rattle.u_summarize.proofs.point_cells.reach.Given as goal

abbrev pub invariant-loop-row : goal.invariant-loop-row
invariant-loop-row g l = record {
  each : All (λ b. LiesIn (l.least, l.greatest) (box_numbers g.T.PointType.number_of b.1)) (take l.row-index l.rows);
  low : g.T.PointType.first_number l.t ≤ℤ l.least;
  high : l.greatest ≤ℤ g.T.PointType.last_number l.t;
}
