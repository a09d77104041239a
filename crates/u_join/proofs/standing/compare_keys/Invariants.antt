use Rattle.std.proofs.Common.{◌≡◌, drop}
use Rattle.value_core.specs.Values.{row_cmp}
use Rattle.relation_core.specs.Agreement.{part_of}
use Rattle.u_join.proofs.standing.compare_keys.Given as goal

abbrev pub invariant-loop-i : goal.invariant-loop-i
invariant-loop-i l = row_cmp (part_of (drop l.i l.here) l.x.row.now) (part_of (drop l.i l.there) l.y.row.now) ≡ row_cmp (part_of l.here l.x.row.now) (part_of l.there l.y.row.now)
