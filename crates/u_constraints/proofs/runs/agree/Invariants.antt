use Rattle.std.proofs.Common.{◌≡◌, take}
use Rattle.relation_core.specs.Agreement.{part_of}
use Rattle.u_constraints.proofs.runs.agree.Given as goal

-- the values so far are the same
abbrev pub invariant-loop-i : goal.invariant-loop-i
invariant-loop-i l = part_of (take l.i l.here) l.x ≡ part_of (take l.i l.there) l.y
