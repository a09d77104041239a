use Rattle.std.proofs.Common.{◌≡◌, ◌-◌, drop, length}
use Rattle.cell_core.specs.GridPoints.{grid_points}
use Rattle.cell_core.proofs.grid_points.grid_points_of.Given as goal

abbrev pub invariant-loop-j : goal.invariant-loop-j
invariant-loop-j l = l.out.items ≡ grid_points (drop (length l.spans - l.j) l.spans)
