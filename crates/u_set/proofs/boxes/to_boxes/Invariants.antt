use Rattle.std.proofs.Common.{◌≡◌, map, take}
use Rattle.std.specs.List.{All}
use Rattle.point_core.specs.Points.{number, IsPointOf}
use Rattle.cell_core.specs.Boxes.{IsBox}
use Rattle.cell_core.specs.Cells.{row_numbers}
use Rattle.u_set.specs.Boxes.{types_at, boxed}
use Rattle.u_set.proofs.boxes.to_boxes.Given as goal

abbrev pub invariant-loop-row : goal.invariant-loop-row
invariant-loop-row l = record {
  rows : map (row_numbers number) l.list.items ≡ map (boxed l.commalist) (take l.row-index l.rows);
  boxes : All (λ b. IsBox IsPointOf (types_at l.heading l.commalist) b.1) l.list.items;
}
