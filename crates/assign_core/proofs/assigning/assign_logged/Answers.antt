use Rattle.std.proofs.Common.{[], map, refl}
use Rattle.std.proofs.lemmas.Result.{err_from_is_err_and}
use Rattle.tree_core.specs.Items.{read_assignment}
use Rattle.tree_core.specs.Relvars.{read_relvars}
use Rattle.stored_views.proofs.UnstoredLemmas.{unstored}
use Rattle.assign_core.proofs.LogLemmas.{refused_full}
use Rattle.assign_core.proofs.assigning.assign_logged.Goals as goal

pub prepare_beside-requires-clause-stored : goal.prepare_beside-requires-clause-stored
prepare_beside-requires-clause-stored g c = unstored (read_relvars c.args.relvars.now).relvars [] c.requires.unstored

pub returns-in_err-fill-clause-assigned : goal.returns-in_err-fill-clause-assigned
returns-in_err-fill-clause-assigned g c =
    let s = read_relvars c.args.relvars.now in
    let p = err_from_is_err_and c.from_residual.result c.from_residual.ensures.1 in
    rw (p.1, p.2) (s, (tt, refl), refl)

pub returns-in_err-prepared-clause-assigned : goal.returns-in_err-prepared-clause-assigned
returns-in_err-prepared-clause-assigned g c =
    let s = read_relvars c.args.relvars.now in
    let list = map read_assignment c.args.list.now in
    let refuse = c.in_err-prepared.field-0.0 in
    let p = err_from_is_err_and c.from_residual-in_err-prepared.result c.from_residual-in_err-prepared.ensures.1 in
    rw (p.1, p.2) (s, (refused_full refuse s list c.in_err-prepared.ensures.refused, refl), refl)
