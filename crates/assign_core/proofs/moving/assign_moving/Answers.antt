use Rattle.std.proofs.Common.{map, refl}
use Rattle.std.proofs.lemmas.Result.{err_from_is_err_and}
use Rattle.tree_core.specs.Items.{read_assignment}
use Rattle.tree_core.specs.Relvars.{read_relvars}
use Rattle.assign_core.proofs.MovingLemmas.{refused_moving}
use Rattle.assign_core.proofs.moving.assign_moving.Goals as goal

pub returns-in_err-moving-clause-assigned : goal.returns-in_err-moving-clause-assigned
returns-in_err-moving-clause-assigned g c =
    let s = read_relvars c.args.relvars.now in
    let list = map read_assignment c.args.list.now in
    let refuse = c.in_err-moving.field-0.0 in
    let p = err_from_is_err_and c.from_residual.result c.from_residual.ensures.1 in
    rw (p.1, p.2) (s, (refused_moving refuse s list c.in_err-moving.ensures.refused, refl), refl)
