use Rattle.relvar_logs.proofs.EntryLemmas.{set_turned}
use Rattle.assign_core.specs.Gained.{less}
use Rattle.assign_core.proofs.gaining.take_back.Goals as goal

pub returns-clause-list : goal.returns-clause-list
returns-clause-list c =
    set_turned c.args.relvars.now.list.entries c.args.gain.now.at c.take_from.new.relvar (less c.args.gain.now.rows.come) c.pair_mut-relvar.result.0.now c.pair_mut-relvar.result.1.now
    c.pair_mut-relvar.ensures.value c.take_from.ensures
