use Rattle.std.specs.List.{insert}
use Rattle.assign_core.proofs.HashedLemmas.{hash_put}
use Rattle.assign_core.proofs.marking.put_hash.Goals as goal

pub returns-in-Ok : goal.returns-in-Ok
returns-in-Ok g c =
    let rows = c.args.rows.now in
    let row = c.args.row.now in
    c.keep.ensures g.heading (insert rows c.args.at row) (hash_put g.heading rows c.args.own c.insert.new.self c.args.at row c.requires.1.1.0 c.in-Ok.ensures.ok) c.requires.1.1.1
