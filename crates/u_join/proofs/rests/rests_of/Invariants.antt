use Rattle.std.proofs.Common.{◌≤◌, length, map}
use Rattle.cell_boxes.specs.Rows.{IsRow}
use Rattle.u_join.specs.declared.standing.Standing.{Standing}
use Rattle.u_join.specs.RowPairs.{seen}
use Rattle.u_join.specs.Rests.{ArePast, AreRests}
use Rattle.u_join.proofs.rests.rests_of.Given as goal

abbrev pub invariant-loop-i : goal.invariant-loop-i
invariant-loop-i l = record {
  known : l.known ≤ length l.right;
  past : (x : Standing) → IsRow l.left l.i x → ArePast seen (seen x) l.right l.known;
  rests : AreRests seen l.left l.right l.i (map seen l.parts.items);
}
