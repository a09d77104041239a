use Rattle.std.proofs.Common.{map}
use Rattle.tree_core.specs.Relvars.{read_entry}
use Rattle.meaning_core.specs.Names.{with_value}
use Rattle.relvar_logs.proofs.EntryLemmas.{set_turned}
use Rattle.assign_core.proofs.ExchangeLemmas.{back_there}
use Rattle.assign_core.proofs.HashedLemmas.{others_hashed}
use Rattle.std.proofs.Common.{◌∙◌}
use Rattle.assign_core.proofs.exchange.exchange_value_at.Goals as goal

pub returns-clause-list : goal.returns-clause-list
returns-clause-list c =
    set_turned c.args.relvars.now.list.entries c.args.at c.exchange_value.new.relvar (with_value c.args.other.now) c.pair_mut-relvar.result.0.now c.pair_mut-relvar.result.1.now
    c.pair_mut-relvar.ensures.value c.exchange_value.ensures.value

pub returns-clause-back : goal.returns-clause-back
returns-clause-back c =
    c.exchange_value.ensures.back
    ∙ back_there c.args.relvars.now.list.entries c.args.at c.args.other.now c.pair_mut-relvar.result.0.now c.pair_mut-relvar.result.1.now c.pair_mut-relvar.ensures.value

pub returns-clause-hashed : goal.returns-clause-hashed
returns-clause-hashed c =
    let es = c.args.relvars.now.list.entries in
    others_hashed es c.args.at c.exchange_value.new.relvar c.take_hashes.new.hashed c.take_hashes.ensures.taken (c.take_hashes.ensures.left (map read_entry es) c.requires.hashed)
