use Rattle.std.proofs.Common.{ℕ, ◌<◌, ◌≤◌, ◌↔◌, length}
use Rattle.cell_boxes.specs.Rows.{IsRow}
use Rattle.cell_packing.specs.Covering.{Among}
use Rattle.u_join.specs.declared.standing.Standing.{Standing}
use Rattle.u_join.specs.RowPairs.{seen, AreBehind, IsLater}
use Rattle.u_join.proofs.sweeping.later.Given as goal

abbrev pub invariant-loop-i : goal.invariant-loop-i
invariant-loop-i l = record {
  known : l.known ≤ length l.rows;
  behind : (x : Standing) → IsRow l.from l.i x → AreBehind seen l.strict (seen x).1 (seen x).2.0 l.rows l.known;
  pairs : (p : ℕ × ℕ) → Among p l.out.items ↔ (p.0 < l.i) × IsLater seen l.strict l.from l.rows p;
}
