use Rattle.std.proofs.Common.{◌≡◌, ◌≢◌, ℕ, suc, ◌+◌, ◌<◌, ◌≤◌, length, get_or}
use Rattle.std.specs.declared.cmp.Ordering.TheVariants.{Greater}
use Rattle.value_core.specs.Values.{row_cmp}
use Rattle.u_summarize.specs.Entries.{row_at, turn}
use Rattle.u_summarize.proofs.entries.numbers_in_turn.Given as goal

abbrev pub invariant-loop-i : goal.invariant-loop-i
invariant-loop-i l = record {
  within : l.i ≤ length l.rows;
  count : length l.out.items ≡ l.i;
  before : (j : ℕ) → l.i ≡ j + 1 → l.before ≡ turn l.rows j;
  each : (r : ℕ) → r < l.i → get_or l.out.items r 0 ≡ turn l.rows r;
  order : (j : ℕ) → suc j < l.i → row_cmp (row_at l.rows j).0 (row_at l.rows (suc j)).0 ≢ Greater;
}
