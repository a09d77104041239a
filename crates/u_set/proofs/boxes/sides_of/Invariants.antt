use Rattle.std.proofs.Common.{◌≡◌, map, take}
use Rattle.point_core.specs.Points.{number, IsPointOf}
use Rattle.value_core.specs.Plain.{plain}
use Rattle.cell_core.specs.Boxes.{IsBox}
use Rattle.cell_core.specs.Cells.{box_numbers}
use Rattle.u_set.specs.Boxes.{types_at, spans_at}
use Rattle.u_set.proofs.boxes.sides_of.Given as goal

abbrev pub invariant-loop-i : goal.invariant-loop-i
invariant-loop-i l = record {
  numbers : box_numbers number l.list.items ≡ spans_at (take l.i-index l.commalist) (map plain l.values);
  points : IsBox IsPointOf (types_at l.heading (take l.i-index l.commalist)) l.list.items;
}
