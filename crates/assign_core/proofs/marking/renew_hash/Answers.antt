use Rattle.std.specs.List.{insert, remove}
use Rattle.assign_core.proofs.HashedLemmas.{hash_cut, hash_kept, hash_put, hash_there, hash_within}
use Rattle.assign_core.proofs.marking.renew_hash.Goals as goal

pub has_hash_at-requires : goal.has_hash_at-requires
has_hash_at-requires g c =
    let rows = c.args.rows.now in
    record {
      at = hash_there g.heading rows c.args.own c.args.places.from c.requires.1.1.1.0 c.requires.0;
      within = hash_within g.heading rows c.args.own c.args.row.now c.requires.1.1.1.0 c.requires.1.1.0;
    }

pub returns-then-has_hash_at : goal.returns-then-has_hash_at
returns-then-has_hash_at g c =
    let rows = c.args.rows.now in
    let row = c.args.row.now in
    let from = c.args.places.from in
    let to = c.args.places.to in
    let own = c.requires.1.1.1.0 in
    c.keep.ensures g.heading (insert (remove rows from) to row)
    (hash_kept g.heading rows c.args.own from to row own c.if-places.true c.requires.0 (c.has_hash_at.ensures c.if-has_hash_at.true)) c.requires.1.1.1.1

pub returns-in-Ok : goal.returns-in-Ok
returns-in-Ok g c =
    let rows = c.args.rows.now in
    let row = c.args.row.now in
    let from = c.args.places.from in
    let to = c.args.places.to in
    let cut = hash_cut g.heading rows c.args.own c.remove.new.self from c.requires.1.1.1.0 c.remove.ensures in
    c.keep-in-Ok.ensures g.heading (insert (remove rows from) to row) (hash_put g.heading (remove rows from) c.remove.new.self c.insert.new.self to row cut c.in-Ok.ensures.ok) c.requires.1.1.1.1
