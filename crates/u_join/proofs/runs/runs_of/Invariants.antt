use Rattle.std.proofs.Common.{ℕ, ◌≤◌, take}
use Rattle.cell_boxes.specs.Rows.{IsRow}
use Rattle.u_join.specs.declared.standing.Standing.{Standing}
use Rattle.u_join.specs.RowPairs.{seen}
use Rattle.u_join.specs.Rests.{AreUpTo, AreRuns}
use Rattle.u_join.proofs.runs.runs_of.Given as goal

abbrev pub invariant-loop-row : goal.invariant-loop-row
invariant-loop-row l = record {
  runs : AreRuns seen (take l.row-index l.rows) l.runs.items;
  up : (j : ℕ) (y : Standing) → IsRow l.rows j y → l.row-index ≤ j → AreUpTo seen l.runs.items (seen y);
}
