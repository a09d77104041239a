use Rattle.std.proofs.Common.{◌≤◌, ◌+◌}
use Rattle.cell_core.specs.Numbering.{AreEnds}
use Rattle.cell_core.proofs.number.ends_list.Given as goal

abbrev pub invariant-loop-r : goal.invariant-loop-r
invariant-loop-r g l = record {
  ends : AreEnds g.T.PointType.number_of (g.T.PointType.IsPoint l.t) (g.T.PointType.last_number l.t) l.spans l.r l.list.items;
  cost : l.steps ≤ l.fn.steps + l.r;
}
