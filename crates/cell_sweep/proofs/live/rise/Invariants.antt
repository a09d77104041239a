use Rattle.std.proofs.Common.{ℕ, suc, ◌<◌, ◌≤◌, ◌-◌, length, get_or}
use Rattle.cell_sweep.proofs.live.rise.Given as goal

abbrev pub decreases-loop-at : goal.decreases-loop-at
decreases-loop-at l = length l.numbers - l.at

abbrev pub invariant-loop-at : goal.invariant-loop-at
invariant-loop-at l = record {
  some : 1 ≤ l.at;
  each : (i : ℕ) → suc i < l.at → suc i < length l.numbers → get_or l.numbers i 0 < get_or l.numbers (suc i) 0;
}
