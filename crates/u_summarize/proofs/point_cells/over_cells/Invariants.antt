use Rattle.std.proofs.Common.{◌≡◌, map, length}
use Rattle.std.specs.List.{All}
use Rattle.cell_core.specs.Cells.{grid_row, row_numbers}
use Rattle.u_summarize.specs.PointCells.{counted_from}
use Rattle.u_summarize.proofs.point_cells.over_cells.Given as goal

abbrev pub invariant-loop-row : goal.invariant-loop-row
invariant-loop-row g l = record {
  can : (goal.iterator-loop-row g).can_next l.row-iterator;
  ends : (goal.iterator-loop-row g).is_finite l.row-iterator;
  rows : map (grid_row (counted_from l.all.0)) l.out.items ≡ map (row_numbers g.T.PointType.number_of) l.yielded;
  one : All (λ x. length x.1 ≡ 1) l.out.items;
}
