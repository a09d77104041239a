use Rattle.std.proofs.Common.{◌≡◌, [], ◌∷◌, length, sym, ap, subst, ◌∙◌, refl, List, Option, ℕ}
use Rattle.std.proofs.lemmas.Result.{err_from_is_err_and}
use Rattle.tree_core.specs.Relvars.{State, read_relvars, view, stored}
use Rattle.tree_core.specs.Trees.{read_tree}
use Rattle.meaning_core.specs.Declarations.{counted}
use Rattle.meaning_core.specs.Logs.{AreInStep}
use Rattle.relvar_logs.proofs.EntryLemmas.{entries_length}
use Rattle.assign_core.specs.Databases.{IsKept}
use Rattle.assign_core.specs.Keeping.{placed_behind, AreStoredIn}
use Rattle.assign_core.specs.Room.{with_stored}
use Rattle.assign_core.proofs.KeepingLemmas.{one_more_kept, one_more_stored, stored_done}
use Rattle.assign_core.proofs.LogLemmas.{turned_kept}
use Rattle.assign_core.proofs.StepLemmas.{step_more}
use Rattle.assign_core.proofs.StoredLemmas.{stored_counted}
use Rattle.assign_core.proofs.keeping.keep_view.Goals as goal

pub returns-in_err-rows-clause-done : goal.returns-in_err-rows-clause-done
returns-in_err-rows-clause-done g c =
    let p = err_from_is_err_and c.from_residual.result c.from_residual.ensures.1 in
    rw (p.1, p.2) (read_relvars c.args.relvars.now, (c.in_err-rows.ensures.refused, refl), refl)

pub returns-in_err-append_view-clause-done : goal.returns-in_err-append_view-clause-done
returns-in_err-append_view-clause-done g c =
    let p = err_from_is_err_and c.from_residual-in_err-append_view.result c.from_residual-in_err-append_view.ensures.1 in
    rw (p.1, p.2) (read_relvars c.args.relvars.now, (tt, refl), c.in_err-append_view.ensures.err.0)

pub count_idle-requires-clause-step : goal.count_idle-requires-clause-step
count_idle-requires-clause-step g c =
    let s = read_relvars c.args.relvars.now in
    let t = read_tree c.args.tree in
    subst (λ (u : State). AreInStep u.accepted u.relvars) (sym c.in_ok-append_view.ensures.ok)
    (step_more s s.accepted ((c.args.name, view t stored) ∷ []) c.requires.kept.well_made refl c.requires.step)

pub returns-clause-done : goal.returns-clause-done
returns-clause-done g c =
    let s = read_relvars c.args.relvars.now in
    let t = read_tree c.args.tree in (
      with_stored s c.args.name t,
      stored_done s c.args.name t c.in_ok-rows.rows c.requires.kept.well_made c.requires.typed c.in_ok-rows.ensures.rows c.requires.stored.room c.in_ok-rows.ensures.room,
      c.count_idle.ensures.counted ∙ ap counted c.in_ok-append_view.ensures.ok,
    )

pub returns-clause-kept : goal.returns-clause-kept
returns-clause-kept g c =
    let s = read_relvars c.args.relvars.now in
    let t = read_tree c.args.tree in
    subst IsKept (sym (c.count_idle.ensures.counted ∙ ap counted c.in_ok-append_view.ensures.ok))
    (turned_kept (with_stored s c.args.name t) (one_more_kept s c.args.name t c.requires.kept c.requires.made))

pub returns-clause-stored : goal.returns-clause-stored
returns-clause-stored g c =
    let raw = c.args.relvars.now.list.entries in
    let s = read_relvars c.args.relvars.now in
    let t = read_tree c.args.tree in
    let rows = c.in_ok-rows.rows in
    let before = c.args.stored.now.items in
    let placed = c.in_ok-append_view.ensures.rows ∙ ap (λ (n : ℕ). placed_behind n rows before) (sym (entries_length raw)) in
    let more = one_more_stored s c.args.name t rows c.requires.kept.well_made c.requires.typed c.in_ok-rows.ensures.rows c.requires.stored.room before c.requires.stored c.in_ok-rows.ensures.room in
    subst (λ (u : State). AreStoredIn u c.append_view.new.stored.items) (sym (c.count_idle.ensures.counted ∙ ap counted c.in_ok-append_view.ensures.ok))
    (stored_counted (with_stored s c.args.name t) c.append_view.new.stored.items c.requires.made (subst (AreStoredIn (with_stored s c.args.name t)) (sym placed) more))
