use Rattle.std.proofs.Common.{map, arith}
use Rattle.tree_core.specs.Relvars.{read_entry}
use Rattle.assign_core.specs.Exchanges.{refilled_relvar, IsHeldOf}
use Rattle.relvar_logs.proofs.EntryLemmas.{entries_length, set_turned, so_there, so_within}
use Rattle.assign_core.proofs.HashedLemmas.{others_hashed}
use Rattle.assign_core.proofs.exchange.put_back_at.Goals as goal

pub pair_mut-relvar-requires : goal.pair_mut-relvar-requires
pair_mut-relvar-requires c =
    let es = c.args.relvars.now.list.entries in
    let within = so_within (map read_entry es) c.args.at (IsHeldOf c.args.held c.args.rows.now) c.requires.held in
    let long = entries_length es in
    omega (arith, within, long)

pub put_back_of-requires : goal.put_back_of-requires
put_back_of-requires c =
    so_there c.args.relvars.now.list.entries c.args.at (IsHeldOf c.args.held c.args.rows.now) c.pair_mut-relvar.result.0.now c.pair_mut-relvar.result.1.now c.requires.held c.pair_mut-relvar.ensures.value

pub returns-clause-list : goal.returns-clause-list
returns-clause-list c =
    set_turned c.args.relvars.now.list.entries c.args.at c.put_back_of.new.relvar (refilled_relvar c.args.held) c.pair_mut-relvar.result.0.now c.pair_mut-relvar.result.1.now
    c.pair_mut-relvar.ensures.value c.put_back_of.ensures

pub returns-clause-hashed : goal.returns-clause-hashed
returns-clause-hashed c =
    let es = c.args.relvars.now.list.entries in
    others_hashed es c.args.at c.put_back_of.new.relvar c.take_hashes.new.hashed c.take_hashes.ensures.taken (c.take_hashes.ensures.left (map read_entry es) c.requires.hashed)
