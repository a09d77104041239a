use Rattle.std.proofs.Common.{◌≡◌, map}
use Rattle.std.specs.List.{All}
use Rattle.cell_core.specs.Boxes.{IsBox}
use Rattle.cell_core.specs.Cells.{row_numbers}
use Rattle.cell_core.specs.GridPoints.{point_row}
use Rattle.cell_core.proofs.unpacking.point_rows.Given as goal

abbrev pub invariant-loop-grid_point : goal.invariant-loop-grid_point
invariant-loop-grid_point g l = record {
  can : (goal.iterator-loop-grid_point g).can_next l.grid_point-iterator;
  ends : (goal.iterator-loop-grid_point g).is_finite l.grid_point-iterator;
  rows : map (row_numbers g.T.PointType.number_of) l.out.items ≡ map point_row l.yielded;
  boxes : All (λ x. IsBox g.T.PointType.IsPoint l.types x.1) l.out.items;
}
