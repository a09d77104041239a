use Rattle.std.proofs.Common.{◌≡◌, true, take}
use Rattle.std.specs.List.{list_all}
use Rattle.u_constraints.specs.Marks.{is_marked}
use Rattle.u_constraints.proofs.marks.marks_for.Given as goal

-- the hashes so far have marks
abbrev pub invariant-loop-hash : goal.invariant-loop-hash
invariant-loop-hash l = list_all (is_marked l.marks.items) (take l.hash-index l.hashes) ≡ true
