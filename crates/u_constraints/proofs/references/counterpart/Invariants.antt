use Rattle.std.proofs.Common.{◌≡◌, drop}
use Rattle.u_constraints.specs.Constraints.{counterpart}
use Rattle.u_constraints.proofs.references.counterpart.Given as goal

abbrev pub invariant-loop-at : goal.invariant-loop-at
invariant-loop-at l = counterpart (drop l.at l.here) (drop l.at l.there) l.position ≡ counterpart l.here l.there l.position
