use Rattle.std.proofs.Common.{◌≤◌, ◌-◌}
use Rattle.cell_sweep.proofs.parted.are_parted.Given as goal

abbrev pub decreases-loop-side : goal.decreases-loop-side
decreases-loop-side l = l.sides - l.side

abbrev pub invariant-loop-side : goal.invariant-loop-side
invariant-loop-side l = l.side ≤ l.sides
