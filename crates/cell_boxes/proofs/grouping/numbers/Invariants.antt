use Rattle.std.proofs.Common.{ℕ, ◌<◌, ◌≤◌, ◌↔◌}
use Rattle.cell_packing.specs.Covering.{Among}
use Rattle.cell_sweep.specs.Rows.{AreRows}
use Rattle.cell_boxes.proofs.grouping.numbers.Given as goal

abbrev pub invariant-loop-r : goal.invariant-loop-r
invariant-loop-r l = record {
  order : AreRows l.first l.r l.out.items;
  members : (q : ℕ) → Among q l.out.items ↔ (l.first ≤ q) × (q < l.r);
}
