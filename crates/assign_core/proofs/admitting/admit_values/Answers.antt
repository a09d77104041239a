use Rattle.std.proofs.Common.{map, sym, ap, subst, ◌∙◌, List}
use Rattle.tree_core.specs.Relvars.{read_entry}
use Rattle.assign_core.specs.Exchanges.{exchanged_by, ArePrepared}
use Rattle.assign_core.specs.declared.exchange.Change.{Change}
use Rattle.assign_core.proofs.RenewedLemmas.{values_ready}
use Rattle.assign_core.proofs.admitting.admit_values.Goals as goal

pub returns-clause-ready : goal.returns-clause-ready
returns-clause-ready g c =
    let es = map read_entry c.args.relvars.now.list.entries in
    subst (λ (l : List Change). ArePrepared l es) (sym c.in_ok-ready.ensures) (values_ready c.args.changes.items es c.requires.changes).0

pub returns-clause-made : goal.returns-clause-made
returns-clause-made g c =
    let es = map read_entry c.args.relvars.now.list.entries in
    ap (λ (l : List Change). exchanged_by l es) c.in_ok-ready.ensures ∙ (values_ready c.args.changes.items es c.requires.changes).1
