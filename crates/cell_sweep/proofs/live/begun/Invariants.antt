use Rattle.std.proofs.Common.{◌≡◌, ℕ, ◌<◌, ◌≤◌, ◌-◌, ◌↔◌, ◌⊎◌, length, slice_index_or}
use Rattle.cell_packing.specs.Covering.{Among}
use Rattle.cell_sweep.proofs.live.begun.Given as goal

abbrev pub decreases-loop-next : goal.decreases-loop-next
decreases-loop-next l = length l.starts - l.next

abbrev pub invariant-loop-next : goal.invariant-loop-next
invariant-loop-next l = record {
  from : l.first ≤ l.next;
  within : l.next ≤ length l.starts;
  passed : (j : ℕ) → l.first ≤ j → j < l.next → (slice_index_or {A = ℕ × ℕ} l.starts j (0, 0)).0 ≤ l.cell;
  rows : (r : ℕ) → Among r l.rows.items ↔ Among r l.fn.live.items ⊎ ((j : ℕ) × (l.first ≤ j) × (j < l.next) × ((slice_index_or {A = ℕ × ℕ} l.starts j (0, 0)).1 ≡ r));
}
