use Rattle.std.proofs.Common.{◌≡◌, ◌+◌, ◌-◌, ◌≤◌, ◌++◌, length, drop}
use Rattle.relation_core.specs.Merged.{merged}
use Rattle.relation_core.proofs.merging.merge.Given as goal

abbrev pub invariant-loop-i : goal.invariant-loop-i
invariant-loop-i l = record {
  left_within : l.i ≤ length l.left;
  right_within : l.j ≤ length l.right;
  so_far : merged l.keeps l.left l.right ≡ l.rows.items ++ merged l.keeps (drop l.i l.left) (drop l.j l.right);
}

abbrev pub decreases-loop-i : goal.decreases-loop-i
decreases-loop-i l = (length l.left - l.i) + (length l.right - l.j)
