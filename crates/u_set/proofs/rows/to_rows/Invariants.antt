use Rattle.std.proofs.Common.{◌≡◌, map}
use Rattle.std.specs.Bool.{IsTrue}
use Rattle.point_core.specs.Points.{number}
use Rattle.value_core.specs.Relations.{all_fit}
use Rattle.cell_core.specs.Cells.{row_numbers}
use Rattle.u_set.specs.Boxes.{unboxed}
use Rattle.u_set.proofs.rows.to_rows.Given as goal

abbrev pub invariant-loop-b : goal.invariant-loop-b
invariant-loop-b l = record {
  can : goal.iterator-loop-b.can_next l.b-iterator;
  ends : goal.iterator-loop-b.is_finite l.b-iterator;
  rows : l.rows.items ≡ map (unboxed l.heading l.commalist) (map (row_numbers number) l.yielded);
  fits : IsTrue (all_fit l.heading l.rows.items);
}
