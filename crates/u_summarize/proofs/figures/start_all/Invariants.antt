use Rattle.std.proofs.Common.{◌≡◌, ℕ, ◌<◌, ◌≤◌, ◌^◌, Bool, List, length}
use Rattle.std.specs.List.{All}
use Rattle.cell_boxes.specs.Tallies.{IsIn}
use Rattle.u_summarize.specs.Figures.{PlainColumn, IsKept, column_at, kept_at}
use Rattle.u_summarize.proofs.figures.start_all.Given as goal

abbrev pub invariant-loop-j : goal.invariant-loop-j
invariant-loop-j l = record {
  within : l.j ≤ length l.columns;
  many : length l.kept.items ≡ l.j;
  each : (f : List Bool) → All (λ (c : PlainColumn). length f ≤ length c.2) l.columns → length f < 2 ^ 64 → ((r : ℕ) → IsIn f r → ⊥) → (i : ℕ) → i < l.j → IsKept (column_at l.columns i) (kept_at l.kept.items i) f;
}
