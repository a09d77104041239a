use Rattle.std.proofs.Common.{◌≡◌, ℕ, ◌<◌, ◌*◌, ◌+◌, min, get_or, length}
use Rattle.cell_core.proofs.number.cell_pairs.Given as goal

abbrev pub invariant-loop-r : goal.invariant-loop-r
invariant-loop-r l = record {
  length : length l.out.items ≡ l.r;
  pairs : (r : ℕ) (d : ℕ × ℕ) → r < l.r → get_or l.out.items r d ≡ (min (get_or l.table (2 * r) 0) l.last, min (get_or l.table (2 * r + 1) 0) l.last);
}
