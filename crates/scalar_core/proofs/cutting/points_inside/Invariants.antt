use Rattle.std.proofs.Common.{◌≡◌, take, map, filter}
use Rattle.std.specs.List.{All}
use Rattle.point_core.specs.Points.{line, number}
use Rattle.interval_core.specs.Members.{span}
use Rattle.scalar_core.specs.Cuts.{is_inside}
use Rattle.scalar_core.proofs.cutting.points_inside.Given as goal

abbrev pub invariant-loop-n : goal.invariant-loop-n
invariant-loop-n l = record {
  numbers : map number l.points.items ≡ filter (is_inside (span number l.i)) (take l.n-index l.numbers);
  points : All (λ p. line p ≡ line l.i.0) l.points.items;
}
