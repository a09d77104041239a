use Rattle.std.specs.List.{All, insert, remove}
use Rattle.std.specs.Vec.{vec_len}
use Rattle.assign_core.specs.Hashed.{IsHashesOf}
use Rattle.assign_core.proofs.marking.renew_hashes.Given as goal

abbrev pub ghost-renew_hash : goal.ghost-renew_hash
ghost-renew_hash g a = g.heading

abbrev pub decreases-loop-own : goal.decreases-loop-own
decreases-loop-own g l = vec_len l.before

-- those that are left have the hashes of the rows that are there, and those that are done have the new one in place of one
abbrev pub invariant-loop-own : goal.invariant-loop-own
invariant-loop-own g l = record {
  before : All (IsHashesOf g.heading l.fn.rows) l.before.items;
  hashes : All (IsHashesOf g.heading (insert (remove l.fn.rows l.fn.places.from) l.fn.places.to l.fn.row)) l.hashes.items;
}
