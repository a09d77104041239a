use Rattle.std.proofs.Common.{◌≤◌, ◌-◌, length}
use Rattle.u_join.specs.RowPairs.{seen}
use Rattle.u_join.specs.Rests.{ArePast}
use Rattle.u_join.proofs.rests.count_past.Given as goal

abbrev pub decreases-loop-count : goal.decreases-loop-count
decreases-loop-count l = length l.rows - l.count

abbrev pub invariant-loop-count : goal.invariant-loop-count
invariant-loop-count l = record {
  within : l.count ≤ length l.rows;
  past : ArePast seen (seen l.other) l.rows l.count;
}
