use Rattle.std.proofs.Common.{ℕ, ◌<◌, ◌≤◌, ◌-◌, length}
use Rattle.cell_sweep.specs.Parted.{StandsApart}
use Rattle.cell_sweep.specs.Rows.{sides_of}
use Rattle.cell_sweep.proofs.parted.are_apart.Given as goal

abbrev pub decreases-loop-at : goal.decreases-loop-at
decreases-loop-at l = length l.live - l.at

abbrev pub invariant-loop-at : goal.invariant-loop-at
invariant-loop-at l = record {
  within : l.at ≤ length l.live;
  apart : (i : ℕ) → i < l.at → StandsApart (sides_of l.boxes) l.sides l.live i;
}
