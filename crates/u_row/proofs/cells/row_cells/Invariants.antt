use Rattle.std.proofs.Common.{◌≡◌, ◌≤◌, ◌+◌, List, drop, length}
use Rattle.cell_packing.specs.Covering.{Among}
use Rattle.cell_core.specs.Boxes.{IsBox}
use Rattle.cell_core.specs.Cells.{box_numbers, boxes_of}
use Rattle.u_row.specs.Cutting.{cells_from, cuts_from}
use Rattle.u_row.proofs.cells.row_cells.Given as goal

abbrev pub invariant-loop-j : goal.invariant-loop-j
invariant-loop-j g l = record {
  within : l.j ≤ length l.types;
  cells : boxes_of g.T.PointType.number_of l.out.items ≡ cells_from (g.R.RowRule.cuts_of l.rule l.row) l.j (drop l.j (box_numbers g.T.PointType.number_of l.sides));
  points : (s : List (g.row.T-Point.Denot × g.row.T-Point.Denot)) → Among s l.out.items → IsBox g.T.PointType.IsPoint (drop l.j l.types) s;
  cost : l.steps ≤ l.initial.steps + cuts_from (g.R.RowRule.cuts_of l.rule l.row) l.j (drop l.j (box_numbers g.T.PointType.number_of l.sides));
}

abbrev pub decreases-loop-j : goal.decreases-loop-j
decreases-loop-j g l = l.j
