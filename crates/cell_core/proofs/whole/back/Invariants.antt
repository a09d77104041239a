use Rattle.std.proofs.Common.{◌≡◌, map}
use Rattle.std.specs.List.{All}
use Rattle.cell_core.specs.Cells.{grids_of, grid_row, row_numbers}
use Rattle.cell_core.specs.Boxes.{IsBox}
use Rattle.cell_core.proofs.whole.back.Given as goal

abbrev pub invariant-loop-row : goal.invariant-loop-row
invariant-loop-row g l = record {
  can : (goal.iterator-loop-row g).can_next l.row-iterator;
  ends : (goal.iterator-loop-row g).is_finite l.row-iterator;
  rows : map (row_numbers g.T.PointType.number_of) l.out.items ≡ map (grid_row (grids_of g.T.PointType.number_of g.T.PointType.last_number l.types l.sides)) l.yielded;
  boxes : All (λ x. IsBox g.T.PointType.IsPoint l.types x.1) l.out.items;
}
