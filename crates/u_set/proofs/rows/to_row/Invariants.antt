use Rattle.std.proofs.Common.{◌≡◌, ◌++◌, map, take, drop}
use Rattle.std.specs.Bool.{IsTrue}
use Rattle.std.specs.Vec.Iter.{into_iter_items}
use Rattle.point_core.specs.Points.{number}
use Rattle.value_core.specs.Plain.{plain}
use Rattle.value_core.specs.Values.{fits_heading}
use Rattle.cell_core.specs.Cells.{box_numbers}
use Rattle.u_set.specs.Boxes.{others_from, unboxed_from, unboxed}
use Rattle.u_set.proofs.rows.to_row.Given as goal

abbrev pub invariant-loop-i : goal.invariant-loop-i
invariant-loop-i l = record {
  row : map plain l.values.items ++ unboxed_from l.i l.commalist (drop l.i l.heading) (map plain (into_iter_items l.rest)) (box_numbers number l.sides) ≡ unboxed l.heading l.commalist (map plain l.fn.label.items, box_numbers number l.sides);
  label : IsTrue (fits_heading (others_from l.i l.commalist (drop l.i l.heading)) (map plain (into_iter_items l.rest)));
  fits : IsTrue (fits_heading (take l.i l.heading) (map plain l.values.items));
}
