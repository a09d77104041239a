use Rattle.std.proofs.Common.{◌≡◌, ◌≤ℤ◌, ◌++◌, map, drop}
use Rattle.std.specs.List.{All}
use Rattle.point_core.specs.Points.{number, IsPointOf}
use Rattle.interval_core.specs.Members.{HasEndsIn}
use Rattle.cell_core.specs.Numbering.{numbers_of}
use Rattle.u_row.specs.Cutting.{AreCuts, pieces}
use Rattle.eval_using.proofs.runs.parts_of.Given as goal

abbrev pub invariant-loop-cut : goal.invariant-loop-cut
invariant-loop-cut l = record {
  rest : map (numbers_of number) l.out.items ++ pieces (number l.begin) (number l.side.1) (map number (drop l.cut-index l.cuts)) ≡
      pieces (number l.side.0) (number l.side.1) (map number l.cuts);
  points : All (HasEndsIn IsPointOf l.t) l.out.items;
  begin : IsPointOf l.t l.begin;
  ordered : number l.begin ≤ℤ number l.side.1;
  cuts : AreCuts (number l.begin) (number l.side.1) (map number (drop l.cut-index l.cuts));
}
