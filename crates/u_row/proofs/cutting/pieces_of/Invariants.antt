use Rattle.std.proofs.Common.{◌≡◌, ◌+◌, ◌≤◌, ◌≤ℤ◌, ◌++◌, map, drop}
use Rattle.std.specs.List.{All}
use Rattle.interval_core.specs.Members.{HasEndsIn}
use Rattle.cell_core.specs.Numbering.{numbers_of}
use Rattle.u_row.specs.Cutting.{AreCuts, pieces}
use Rattle.u_row.proofs.cutting.pieces_of.Given as goal

abbrev pub invariant-loop-cut : goal.invariant-loop-cut
invariant-loop-cut g l = record {
  rest : map (numbers_of g.T.PointType.number_of) l.out.items ++ pieces (g.T.PointType.number_of l.begin) (g.T.PointType.number_of l.side.1) (map g.T.PointType.number_of (drop l.cut-index l.cuts)) ≡
      pieces (g.T.PointType.number_of l.side.0) (g.T.PointType.number_of l.side.1) (map g.T.PointType.number_of l.cuts);
  points : All (HasEndsIn g.T.PointType.IsPoint l.t) l.out.items;
  begin : g.T.PointType.IsPoint l.t l.begin;
  ordered : g.T.PointType.number_of l.begin ≤ℤ g.T.PointType.number_of l.side.1;
  cuts : AreCuts (g.T.PointType.number_of l.begin) (g.T.PointType.number_of l.side.1) (map g.T.PointType.number_of (drop l.cut-index l.cuts));
  cost : l.steps ≤ l.initial.steps + l.cut-index;
}
