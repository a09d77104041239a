use Rattle.std.proofs.Common.{◌≡◌, ℕ, ◌<◌, ◌≤◌, ◌↔◌, ◌⊎◌}
use Rattle.cell_packing.specs.Covering.{Among}
use Rattle.u_join.proofs.sweeping.push_range.Given as goal

abbrev pub invariant-loop-j : goal.invariant-loop-j
invariant-loop-j l = record {
  upto : (l.j ≤ l.first) ⊎ (l.j ≤ l.end);
  pairs : (p : ℕ × ℕ) → Among p l.out.items ↔ Among p l.fn.out.items ⊎ ((p.0 ≡ l.number) × (l.first ≤ p.1) × (p.1 < l.j));
}
