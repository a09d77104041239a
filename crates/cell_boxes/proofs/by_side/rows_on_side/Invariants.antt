use Rattle.std.proofs.Common.{ℕ, ◌<◌, ◌↔◌}
use Rattle.cell_packing.specs.Covering.{Among}
use Rattle.cell_boxes.specs.Answers.{PlainKeyedCellBox}
use Rattle.cell_boxes.specs.Sides.{IsOnSide}
use Rattle.cell_boxes.proofs.by_side.rows_on_side.Given as goal

abbrev pub invariant-loop-i : goal.invariant-loop-i
invariant-loop-i g l = (z : PlainKeyedCellBox _ ℕ) → Among z l.out.items ↔ (z.1 < l.i) × IsOnSide l.side l.rows z
