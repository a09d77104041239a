use Rattle.std.proofs.Common.{ℕ, ◌<◌, ◌≤◌, ◌-◌, length}
use Rattle.cell_sweep.specs.Runs.{IsRunAt}
use Rattle.cell_sweep.proofs.one_side.are_runs.Given as goal

abbrev pub decreases-loop-at : goal.decreases-loop-at
decreases-loop-at g l = length l.rows - l.at

abbrev pub invariant-loop-at : goal.invariant-loop-at
invariant-loop-at g l = record {
  within : l.at ≤ length l.rows;
  runs : (i : ℕ) → i < l.at → IsRunAt g.P.Label.order l.rows i;
}
