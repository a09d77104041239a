use Rattle.std.proofs.Common.{None, get_or, sym, subst, ◌∙◌, Option}
use Rattle.value_core.specs.Values.{Relation}
use Rattle.tree_core.specs.Relvars.{read_relvar}
use Rattle.meaning_core.specs.StoredRows.{HasItsRows}
use Rattle.relvar_logs.proofs.EntryLemmas.{so_put, so_there}
use Rattle.stored_views.specs.NextRows.{newer}
use Rattle.stored_views.specs.Stored.{IsCounted}
use Rattle.stored_views.proofs.counting.rows_at.Goals as goal

pub rows_of-requires : goal.rows_of-requires
rows_of-requires g c =
    let at = c.args.at in
    let r = read_relvar c.in-Some.relvar.now in
    let here = so_there c.args.relvars.now.list.entries at (λ q. HasItsRows g.behind q (newer (get_or c.args.next.now at None) (get_or c.args.stored.now at None))) c.in-Some.field-0-0.now c.in-Some.relvar.now
    c.requires.1 (sym c.in-Some.ensures.entry) in
    let same = c.newer.ensures ∙ (λ i. newer (c.there.ensures i) (c.there-in-Some.ensures i)) in
    subst (λ (o : Option Relation). HasItsRows g.behind r o) (sym same) here

pub returns : goal.returns
returns g c =
    so_put c.args.relvars.now.list.entries c.args.at (IsCounted g.behind c.rows_of.result) c.in-Some.field-0-0.now c.in-Some.relvar.now (sym c.in-Some.ensures.entry) c.rows_of.ensures
