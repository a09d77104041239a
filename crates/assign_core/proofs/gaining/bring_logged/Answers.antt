use Rattle.std.proofs.Common.{refl, sym, subst, Bool, Result, None}
use Rattle.std.proofs.lemmas.Result.{err_from_is_err_and}
use Rattle.value_core.specs.declared.refuse.Refuse.{Refuse}
use Rattle.tree_core.specs.Relvars.{read_relvars}
use Rattle.assign_core.specs.NewRows.{joining, HasLogRoomIf, IsFoundIf}
use Rattle.assign_core.proofs.GainedLemmas.{found_base, has_room_for}
use Rattle.assign_core.proofs.gaining.bring_logged.Goals as goal

pub returns-in_err-come-clause-brought : goal.returns-in_err-come-clause-brought
returns-in_err-come-clause-brought g c =
    let p = err_from_is_err_and c.from_residual.result c.from_residual.ensures.1 in
    rw (p.1, p.2) (read_relvars c.args.relvars.now, (λ old at there given k. (tt, refl)), refl)

pub returns-in_err-come-clause-found : goal.returns-in_err-come-clause-found
returns-in_err-come-clause-found g c =
    let s = read_relvars c.args.relvars.now in
    let p = err_from_is_err_and c.from_residual.result c.from_residual.ensures.1 in
    subst (λ (r : Result Bool Refuse). IsFoundIf r s c.args.target.now c.args.rows.heading) (sym p.1)
    (found_base s c.args.target.now c.args.rows c.in-Some.at c.in-Some.value.now c.requires.kept c.requires.step c.in-Some.ensures)

pub returns-in_err-come-clause-beside : goal.returns-in_err-come-clause-beside
returns-in_err-come-clause-beside g c =
    let s = read_relvars c.args.relvars.now in
    let p = err_from_is_err_and c.from_residual.result c.from_residual.ensures.1 in
    subst (λ (r : Result Bool Refuse). HasLogRoomIf (joining None) r s c.args.target.now c.args.rows) (sym p.1)
    (has_room_for s c.args.target.now c.args.rows c.in-Some.at c.in-Some.value.now c.requires.kept c.requires.step c.in-Some.ensures)

pub returns-in_err-gone-clause-brought : goal.returns-in_err-gone-clause-brought
returns-in_err-gone-clause-brought g c =
    let p = err_from_is_err_and c.from_residual-in_err-gone.result c.from_residual-in_err-gone.ensures.1 in
    rw (p.1, p.2) (read_relvars c.args.relvars.now, (λ old at there given k. (tt, refl)), refl)

pub returns-in_err-gone-clause-found : goal.returns-in_err-gone-clause-found
returns-in_err-gone-clause-found g c =
    let s = read_relvars c.args.relvars.now in
    let p = err_from_is_err_and c.from_residual-in_err-gone.result c.from_residual-in_err-gone.ensures.1 in
    subst (λ (r : Result Bool Refuse). IsFoundIf r s c.args.target.now c.args.rows.heading) (sym p.1)
    (found_base s c.args.target.now c.args.rows c.in-Some.at c.in-Some.value.now c.requires.kept c.requires.step c.in-Some.ensures)

pub returns-in_err-gone-clause-beside : goal.returns-in_err-gone-clause-beside
returns-in_err-gone-clause-beside g c =
    let s = read_relvars c.args.relvars.now in
    let p = err_from_is_err_and c.from_residual-in_err-gone.result c.from_residual-in_err-gone.ensures.1 in
    subst (λ (r : Result Bool Refuse). HasLogRoomIf (joining None) r s c.args.target.now c.args.rows) (sym p.1)
    (has_room_for s c.args.target.now c.args.rows c.in-Some.at c.in-Some.value.now c.requires.kept c.requires.step c.in-Some.ensures)
