use Rattle.std.proofs.Common.{ℕ, ◌<◌, ◌≤◌, ◌↔◌, length}
use Rattle.cell_packing.specs.Covering.{Among}
use Rattle.cell_boxes.specs.Meetings.{AreBehind, IsLater}
use Rattle.cell_boxes.specs.Rows.{IsRow, PlainCellBox}
use Rattle.cell_boxes.proofs.later.later.Given as goal

abbrev pub invariant-loop-i : goal.invariant-loop-i
invariant-loop-i g l = record {
  known : l.known ≤ length l.rows;
  behind : (x : PlainCellBox _) → IsRow l.from l.i x → AreBehind g.P.Label.order l.strict x l.rows l.known;
  pairs : (p : ℕ × ℕ) → Among p l.out.items ↔ (p.0 < l.i) × IsLater g.P.Label.order l.strict l.from l.rows p;
}
