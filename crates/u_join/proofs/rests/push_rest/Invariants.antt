use Rattle.std.proofs.Common.{ℕ, ◌<◌, ◌≤◌, ℤ, ◌<ℤ◌, ◌≤ℤ◌, map}
use Rattle.cell_boxes.specs.Rows.{IsRow}
use Rattle.u_join.specs.declared.standing.Standing.{Standing}
use Rattle.u_join.specs.RowPairs.{seen}
use Rattle.u_join.specs.Rests.{HasNumber, AreCutTo}
use Rattle.u_join.proofs.rests.push_rest.Given as goal

abbrev pub invariant-loop-j : goal.invariant-loop-j
invariant-loop-j l = record {
  begin : l.x.begin ≤ℤ l.from;
  cut : AreCutTo seen (seen l.x) l.rows l.from (map seen l.fn.parts.items) (map seen l.parts.items);
  known : (p : ℤ) (i : ℕ) (z : Standing) → IsRow l.rows i z → l.first ≤ i → i < l.j → HasNumber (seen z).2 p → p <ℤ l.from;
}
