use Rattle.std.proofs.Common.{ℕ, suc, ◌<◌, ◌≤◌, ◌-◌, length, get_or}
use Rattle.cell_sweep.specs.PackedRows.{span_of}
use Rattle.cell_sweep.specs.Rows.{sides_of}
use Rattle.cell_sweep.proofs.runs.begin_in_turn.Given as goal

abbrev pub decreases-loop-at : goal.decreases-loop-at
decreases-loop-at l = length l.rows - l.at

abbrev pub invariant-loop-at : goal.invariant-loop-at
invariant-loop-at l = record {
  some : 1 ≤ l.at;
  each : (i : ℕ) (d e : ℕ) → suc i < l.at → suc i < length l.rows → (span_of (sides_of l.boxes) 0 (get_or l.rows i d)).0 ≤ (span_of (sides_of l.boxes) 0 (get_or l.rows (suc i) e)).0;
}
