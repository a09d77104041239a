use Rattle.std.proofs.Common.{◌≡◌, ℕ, ◌<◌, ◌≤◌, ◌-◌, ◌↔◌, ◌⊎◌, length}
use Rattle.cell_boxes.specs.Tallies.{IsIn, span_at, pair_at}
use Rattle.cell_boxes.proofs.keeping.enter_all.Given as goal

abbrev pub decreases-loop-i : goal.decreases-loop-i
decreases-loop-i g l = length l.starts - l.i

abbrev pub invariant-loop-i : goal.invariant-loop-i
invariant-loop-i g l = record {
  from : l.next ≤ l.i;
  within : l.i ≤ length l.starts;
  passed : (j : ℕ) → l.next ≤ j → j < l.i → (pair_at l.starts j).0 ≤ l.cell;
  of : g.T.Tally.IsOf l.rule l.kept l.flags.items;
  count : length l.flags.items ≡ length l.fn.flags.items;
  flags : (r : ℕ) → IsIn l.flags.items r ↔ IsIn l.fn.flags.items r ⊎ ((j : ℕ) × (l.next ≤ j) × (j < l.i) × ((pair_at l.starts j).1 ≡ r) × (l.cell < (span_at l.spans r).1));
}
