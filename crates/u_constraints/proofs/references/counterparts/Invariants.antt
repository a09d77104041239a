use Rattle.std.proofs.Common.{◌≡◌, map, take}
use Rattle.u_constraints.specs.Constraints.{counterpart}
use Rattle.u_constraints.proofs.references.counterparts.Given as goal

abbrev pub invariant-loop-position : goal.invariant-loop-position
invariant-loop-position l = l.list.items ≡ map (counterpart l.here l.there) (take l.position-index l.positions)
