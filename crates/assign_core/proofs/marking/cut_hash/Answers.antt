use Rattle.std.specs.List.{remove}
use Rattle.assign_core.proofs.HashedLemmas.{hash_cut}
use Rattle.assign_core.proofs.marking.cut_hash.Goals as goal

pub returns : goal.returns
returns g c =
    let rows = c.args.rows.now in
    c.keep.ensures g.heading (remove rows c.args.at) (hash_cut g.heading rows c.args.own c.remove.new.self c.args.at c.requires.1.0 c.remove.ensures) c.requires.1.1
