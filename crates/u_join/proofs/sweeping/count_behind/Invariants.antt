use Rattle.std.proofs.Common.{◌≤◌, ◌-◌, length}
use Rattle.u_join.specs.RowPairs.{seen, AreBehind}
use Rattle.u_join.proofs.sweeping.count_behind.Given as goal

abbrev pub decreases-loop-count : goal.decreases-loop-count
decreases-loop-count l = length l.rows - l.count

abbrev pub invariant-loop-count : goal.invariant-loop-count
invariant-loop-count l = record {
  within : l.count ≤ length l.rows;
  more : l.known ≤ l.count;
  behind : AreBehind seen l.too (seen l.other).1 l.point l.rows l.count;
}
