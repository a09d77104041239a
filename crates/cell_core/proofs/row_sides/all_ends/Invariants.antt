use Rattle.std.proofs.Common.{◌≤◌, ◌+◌, ◌++◌, map}
use Rattle.cell_core.specs.Cells.{side_of}
use Rattle.cell_core.specs.Numbering.{AreEnds}
use Rattle.cell_core.proofs.row_sides.all_ends.Given as goal

abbrev pub invariant-loop-r : goal.invariant-loop-r
invariant-loop-r g l = record {
  ends : (d : g.row.T-Point.Denot × g.row.T-Point.Denot) → AreEnds g.T.PointType.number_of (g.T.PointType.IsPoint l.t) (g.T.PointType.last_number l.t) (map (side_of l.side d) (map (λ r. r.1) l.left ++ map (λ r. r.1) l.right)) l.r l.list.items;
  cost : l.steps ≤ l.fn.steps + l.r;
}
