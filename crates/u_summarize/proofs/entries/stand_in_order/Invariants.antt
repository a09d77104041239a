use Rattle.std.proofs.Common.{◌≡◌, ℕ, ◌+◌, ◌<◌, ◌≤◌, ◌-◌, false, length}
use Rattle.std.specs.Ordering.{is_lt}
use Rattle.value_core.specs.Values.{row_cmp}
use Rattle.cell_sweep.specs.Rows.{key_cmp}
use Rattle.u_summarize.specs.Entries.{row_at}
use Rattle.u_summarize.proofs.entries.stand_in_order.Given as goal

abbrev pub decreases-loop-i : goal.decreases-loop-i
decreases-loop-i l = length l.rows - l.i

abbrev pub invariant-loop-i : goal.invariant-loop-i
invariant-loop-i l = record {
  within : l.i ≤ length l.rows;
  each : (k : ℕ) → k < l.i → is_lt (key_cmp row_cmp (row_at l.rows (k + 1)) (row_at l.rows k)) ≡ false;
}
