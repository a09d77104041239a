use Rattle.std.proofs.Common.{◌≡◌}
use Rattle.u_constraints.specs.Growth.{outside_below}
use Rattle.u_constraints.proofs.positions.outside_below.Given as goal

abbrev pub invariant-loop-i : goal.invariant-loop-i
invariant-loop-i l = l.list.items ≡ outside_below l.commalist l.i
