use Rattle.std.proofs.Common.{map, arith}
use Rattle.indexmap.specs.IndexMap.{set_value_at}
use Rattle.tree_core.specs.Relvars.{read_entry}
use Rattle.assign_core.specs.Exchanges.{refilled_relvar, IsHeldOf}
use Rattle.assign_core.specs.Turnovers.{renewed_relvar}
use Rattle.relvar_logs.proofs.EntryLemmas.{entries_length, set_turned, so_there, so_within}
use Rattle.assign_core.proofs.HashedLemmas.{others_hashed, set_hashed}
use Rattle.assign_core.proofs.exchange.let_in_at.Goals as goal

pub pair_mut-relvar-requires : goal.pair_mut-relvar-requires
pair_mut-relvar-requires c =
    let es = c.args.relvars.now.list.entries in
    let within = so_within (map read_entry es) c.args.at (IsHeldOf c.args.held c.args.rows.now) c.requires.held in
    let long = entries_length es in
    omega (arith, within, long)

pub let_in_of-requires : goal.let_in_of-requires
let_in_of-requires c = record {
  held = so_there c.args.relvars.now.list.entries c.args.at (IsHeldOf c.args.held c.args.rows.now) c.pair_mut-relvar.result.0.now c.pair_mut-relvar.result.1.now c.requires.held c.pair_mut-relvar.ensures.value;
}

pub returns-in-Some-clause-list : goal.returns-in-Some-clause-list
returns-in-Some-clause-list c =
    set_turned c.args.relvars.now.list.entries c.args.at c.let_in_of.new.relvar (λ r. renewed_relvar c.args.rows.now (refilled_relvar c.args.held r)) c.pair_mut-relvar.result.0.now
    c.pair_mut-relvar.result.1.now c.pair_mut-relvar.ensures.value c.let_in_of.ensures.value

pub returns-in-Some-clause-hashed : goal.returns-in-Some-clause-hashed
returns-in-Some-clause-hashed c =
    let es = c.args.relvars.now.list.entries in
    let w = c.let_in_of.new.relvar in
    c.put_hashes.ensures (map read_entry (set_value_at es c.args.at w))
    (others_hashed es c.args.at w c.take_hashes.new.hashed c.take_hashes.ensures.taken (c.take_hashes.ensures.left (map read_entry es) c.requires.hashed))
    (set_hashed es c.args.at w c.in-Some.list.items c.in-Some.ensures.hashes)

pub returns-in-None-clause-list : goal.returns-in-None-clause-list
returns-in-None-clause-list c =
    set_turned c.args.relvars.now.list.entries c.args.at c.let_in_of.new.relvar (λ r. renewed_relvar c.args.rows.now (refilled_relvar c.args.held r)) c.pair_mut-relvar.result.0.now
    c.pair_mut-relvar.result.1.now c.pair_mut-relvar.ensures.value c.let_in_of.ensures.value

pub returns-in-None-clause-hashed : goal.returns-in-None-clause-hashed
returns-in-None-clause-hashed c =
    let es = c.args.relvars.now.list.entries in
    others_hashed es c.args.at c.let_in_of.new.relvar c.take_hashes.new.hashed c.take_hashes.ensures.taken (c.take_hashes.ensures.left (map read_entry es) c.requires.hashed)
