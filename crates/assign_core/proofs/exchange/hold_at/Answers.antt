use Rattle.std.proofs.Common.{map, arith}
use Rattle.std.proofs.lemmas.Result.{on_err_weaker}
use Rattle.tree_core.specs.Relvars.{read_entry}
use Rattle.assign_core.specs.Exchanges.{refilled_relvar, IsHeldOf}
use Rattle.assign_core.specs.Turnovers.{MayExchange}
use Rattle.relvar_logs.proofs.EntryLemmas.{entries_length, set_same, so_set, so_there, so_within, turned_to}
use Rattle.assign_core.proofs.ExchangeLemmas.{if_ok_weaker}
use Rattle.assign_core.proofs.HashedLemmas.{hashes_entry, others_hashed}
use Rattle.assign_core.proofs.exchange.hold_at.Goals as goal

pub pair_mut-relvar-requires : goal.pair_mut-relvar-requires
pair_mut-relvar-requires c =
    let es = c.args.relvars.now.list.entries in
    let within = so_within (map read_entry es) c.args.at (MayExchange c.args.rows.now) c.requires.may in
    let long = entries_length es in
    omega (arith, within, long)

pub hold_of-requires-clause-may : goal.hold_of-requires-clause-may
hold_of-requires-clause-may c =
    so_there c.args.relvars.now.list.entries c.args.at (MayExchange c.args.rows.now) c.pair_mut-relvar.result.0.now c.pair_mut-relvar.result.1.now c.requires.may c.pair_mut-relvar.ensures.value

pub hold_of-requires-clause-hashes : goal.hold_of-requires-clause-hashes
hold_of-requires-clause-hashes c =
    let es = c.args.relvars.now.list.entries in
    hashes_entry es c.args.at c.pair_mut-relvar.result.0.now c.pair_mut-relvar.result.1.now c.take_hashes-hashes.result.items c.pair_mut-relvar.ensures.value
    (c.take_hashes-hashes.ensures.list (map read_entry es) c.requires.hashed)

pub returns-clause-back : goal.returns-clause-back
returns-clause-back c =
    if_ok_weaker c.hold_of.result
    (λ h e. turned_to c.args.relvars.now.list.entries c.args.at c.hold_of.new.relvar (refilled_relvar h) c.pair_mut-relvar.result.0.now c.pair_mut-relvar.result.1.now c.pair_mut-relvar.ensures.value e)
    c.hold_of.ensures.back

pub returns-clause-held : goal.returns-clause-held
returns-clause-held c =
    if_ok_weaker c.hold_of.result
    (λ h e. so_set c.args.relvars.now.list.entries c.args.at c.hold_of.new.relvar (IsHeldOf h c.args.rows.now) c.pair_mut-relvar.result.0.now c.pair_mut-relvar.result.1.now c.pair_mut-relvar.ensures.value e)
    c.hold_of.ensures.held

pub returns-clause-err : goal.returns-clause-err
returns-clause-err c =
    on_err_weaker c.hold_of.result
    (set_same c.args.relvars.now.list.entries c.args.at c.hold_of.new.relvar c.pair_mut-relvar.result.0.now c.pair_mut-relvar.result.1.now c.pair_mut-relvar.ensures.value)
    c.hold_of.ensures.err

pub returns-clause-hashed : goal.returns-clause-hashed
returns-clause-hashed c =
    let es = c.args.relvars.now.list.entries in
    others_hashed es c.args.at c.hold_of.new.relvar c.take_hashes-hashes.new.hashed c.take_hashes-hashes.ensures.taken (c.take_hashes-hashes.ensures.left (map read_entry es) c.requires.hashed)
