use Rattle.std.proofs.Common.{◌↔◌, ◌≤◌, ℕ, length}
use Rattle.value_core.specs.Values.{Row}
use Rattle.cell_packing.specs.Covering.{Among}
use Rattle.cell_boxes.specs.Answers.{PlainKeyedCellBox}
use Rattle.u_summarize.proofs.NumberedLemmas.{IsNumberedBelow}
use Rattle.u_summarize.proofs.numbered.numbered.Given as goal

abbrev pub invariant-loop-r : goal.invariant-loop-r
invariant-loop-r l = record {
  within : l.r ≤ length l.rows;
  members : (z : PlainKeyedCellBox Row ℕ) → Among z l.out.items ↔ IsNumberedBelow l.r l.by l.rows z;
}
