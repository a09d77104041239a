use Rattle.std.proofs.Common.{None, get_or, sym, subst}
use Rattle.tree_core.specs.Relvars.{read_relvar}
use Rattle.meaning_core.specs.StoredRows.{HasItsRows}
use Rattle.relvar_logs.proofs.EntryLemmas.{so_put, so_there}
use Rattle.stored_views.specs.Stored.{IsCounted}
use Rattle.stored_views.specs.ViewMoves.{placed, IsMoveAt}
use Rattle.stored_views.proofs.counting.moved_rows_at.Goals as goal

pub moved_rows_of-requires : goal.moved_rows_of-requires
moved_rows_of-requires g c =
    let at = c.args.at in
    let r = read_relvar c.in-Some.relvar.now in
    let here = so_there c.args.relvars.now.list.entries at (λ q. HasItsRows g.behind q (placed (get_or c.args.moves.now at None) (get_or c.args.stored.now at None))) c.in-Some.field-0-0.now c.in-Some.relvar.now
    c.requires.1.0 (sym c.in-Some.ensures.entry) in (
      subst (λ (T : Type 0). T) (λ i. HasItsRows g.behind r (placed (sym c.moved_at.ensures i) (sym c.there.ensures i))) here,
      subst (λ (T : Type 0). T) (λ i. IsMoveAt (sym c.moved_at.ensures i) (sym c.there.ensures i)) c.requires.1.1,
    )

pub returns : goal.returns
returns g c =
    so_put c.args.relvars.now.list.entries c.args.at (IsCounted g.behind c.moved_rows_of.result) c.in-Some.field-0-0.now c.in-Some.relvar.now (sym c.in-Some.ensures.entry) c.moved_rows_of.ensures
