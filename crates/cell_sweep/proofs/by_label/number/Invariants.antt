use Rattle.std.proofs.Common.{ℕ, ◌<◌, ◌≤◌, ◌↔◌}
use Rattle.cell_packing.specs.Covering.{Among}
use Rattle.cell_sweep.specs.Rows.{AreRows}
use Rattle.cell_sweep.proofs.by_label.number.Given as goal

abbrev pub invariant-loop-r : goal.invariant-loop-r
invariant-loop-r l = record {
  members : (n : ℕ) → Among n l.list.items ↔ (l.fn.first ≤ n) × (n < l.r);
  order : AreRows l.fn.first l.r l.list.items;
}
