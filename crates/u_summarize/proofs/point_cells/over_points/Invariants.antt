use Rattle.std.proofs.Common.{◌≡◌, ◌∷◌, [], map}
use Rattle.std.specs.List.{All, filter}
use Rattle.cell_core.specs.Boxes.{IsBox}
use Rattle.cell_core.specs.Cells.{grid_row, row_numbers}
use Rattle.u_summarize.specs.PointCells.{counted_from, has_some}
use Rattle.u_summarize.proofs.point_cells.over_points.Given as goal

abbrev pub invariant-loop-row : goal.invariant-loop-row
invariant-loop-row g l = record {
  can : (goal.iterator-loop-row g).can_next l.row-iterator;
  ends : (goal.iterator-loop-row g).is_finite l.row-iterator;
  rows : map (row_numbers g.T.PointType.number_of) l.out.items ≡ map (grid_row (counted_from l.all.0)) (filter has_some l.yielded);
  boxes : All (λ b. IsBox g.T.PointType.IsPoint (l.t ∷ []) b.1) l.out.items;
}
