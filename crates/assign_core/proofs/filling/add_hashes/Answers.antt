use Rattle.assign_core.proofs.HashedLemmas.{own_hashes}
use Rattle.assign_core.proofs.filling.add_hashes.Goals as goal

pub returns : goal.returns
returns c =
    let value = c.args.value.now in
    c.keep.ensures value.heading value.rows
    (own_hashes value.heading value.rows c.in_ok-own.own c.args.positions.now c.in_ok-own.ensures.positions c.in_ok-own.ensures.hashes c.requires.within) c.requires.hashes
