use Rattle.std.proofs.Common.{Option, sym, ap, ◌∙◌}
use Rattle.value_core.specs.Values.{Relation}
use Rattle.tree_core.specs.Relvars.{read_relvar}
use Rattle.assign_core.specs.Breaches.{value_of}
use Rattle.relvar_logs.specs.Changes.{changed_relvar}
use Rattle.assign_core.proofs.CountLemmas.{changed_at_place}
use Rattle.assign_core.proofs.changes.newest_at.Goals as goal

pub returns : goal.returns
returns c d =
    let es = c.args.relvars.now.list.entries in
    let r = read_relvar c.in-Some.relvar.now in
    let here = changed_at_place c.args.changes.now es c.args.at c.in-Some.field-0-0.now c.in-Some.relvar.now c.index-changes-at.result d c.requires.length (sym c.in-Some.ensures.entry) in
    c.newest_of.ensures ∙ (ap (λ (o : Option Relation). value_of (changed_relvar o r)) c.index-changes-at.is ∙ ap value_of (sym here))
