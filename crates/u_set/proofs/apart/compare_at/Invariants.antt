use Rattle.std.proofs.Common.{◌≡◌, drop}
use Rattle.value_core.specs.Values.{row_cmp}
use Rattle.relation_core.specs.Agreement.{part_of}
use Rattle.u_set.proofs.apart.compare_at.Given as goal

abbrev pub invariant-loop-position : goal.invariant-loop-position
invariant-loop-position l = row_cmp (part_of (drop l.position-index l.positions) l.x) (part_of (drop l.position-index l.positions) l.y) ≡ row_cmp (part_of l.positions l.x) (part_of l.positions l.y)
