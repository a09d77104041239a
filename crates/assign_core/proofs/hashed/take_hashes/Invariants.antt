use Rattle.std.specs.Vec.{vec_len}
use Rattle.tree_core.specs.Relvars.{Entries}
use Rattle.assign_core.specs.Hashed.{AreHashed, AreHashesAt}
use Rattle.assign_core.proofs.hashed.take_hashes.Given as goal

abbrev pub decreases-loop-i : goal.decreases-loop-i
decreases-loop-i l = vec_len l.hashed.entries

-- those that are left are right, and so are those that are taken
abbrev pub invariant-loop-i : goal.invariant-loop-i
invariant-loop-i l = record {
  left : (es : Entries) → AreHashed l.initial.hashed es → AreHashed l.hashed es;
  list : (es : Entries) → AreHashed l.initial.hashed es → AreHashesAt l.fn.at l.list.items es;
}
