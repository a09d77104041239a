use Rattle.std.specs.List.{All, remove}
use Rattle.std.specs.Vec.{vec_len}
use Rattle.assign_core.specs.Hashed.{IsHashesOf}
use Rattle.assign_core.proofs.marking.cut_hashes.Given as goal

abbrev pub ghost-cut_hash : goal.ghost-cut_hash
ghost-cut_hash g a = g.heading

abbrev pub decreases-loop-own : goal.decreases-loop-own
decreases-loop-own g l = vec_len l.before

-- those that are left have the hashes of the rows that are there, and those that are done do not have the one that goes
abbrev pub invariant-loop-own : goal.invariant-loop-own
invariant-loop-own g l = record {
  before : All (IsHashesOf g.heading l.fn.rows) l.before.items;
  hashes : All (IsHashesOf g.heading (remove l.fn.rows l.fn.at)) l.hashes.items;
}
