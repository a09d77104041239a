use Rattle.std.proofs.Common.{◌≡◌, take}
use Rattle.u_set.specs.Boxes.{types_at}
use Rattle.u_set.proofs.positions.types_at.Given as goal

abbrev pub invariant-loop-i : goal.invariant-loop-i
invariant-loop-i l = l.types.items ≡ types_at l.heading (take l.i-index l.commalist)
