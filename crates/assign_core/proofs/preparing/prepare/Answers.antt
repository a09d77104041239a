use Rattle.std.proofs.Common.{map, arith}
use Rattle.std.proofs.lemmas.Result.{err_from_is_err_and}
use Rattle.tree_core.specs.Items.{read_assignment}
use Rattle.tree_core.specs.Relvars.{read_entry}
use Rattle.assign_core.specs.Assignments.{evaluated}
use Rattle.assign_core.proofs.PendingLemmas.{values_refused}
use Rattle.assign_core.proofs.preparing.prepare.Goals as goal

pub returns-in_err-pending-clause-refused : goal.returns-in_err-pending-clause-refused
returns-in_err-pending-clause-refused g c =
    let es = map read_entry c.args.relvars.now.list.entries in
    let p = err_from_is_err_and c.from_residual.result c.from_residual.ensures.1 in
    rw (p.1, p.2) (values_refused (evaluated es es (map read_assignment c.args.list.now)) c.in_err-pending.field-0.0 c.in_err-pending.ensures.refused)

pub admit_pending-requires-clause-pending : goal.admit_pending-requires-clause-pending
admit_pending-requires-clause-pending g c =
    let es = map read_entry c.args.relvars.now.list.entries in
    (evaluated es es (map read_assignment c.args.list.now), c.in_ok-pending.ensures.pending)

pub returns-clause-meant : goal.returns-clause-meant
returns-clause-meant g c =
    let es = map read_entry c.args.relvars.now.list.entries in
    c.admit_pending.ensures.meant (evaluated es es (map read_assignment c.args.list.now)) c.in_ok-pending.ensures.pending

pub returns-clause-refused : goal.returns-clause-refused
returns-clause-refused g c =
    let es = map read_entry c.args.relvars.now.list.entries in
    c.admit_pending.ensures.refused (evaluated es es (map read_assignment c.args.list.now)) c.in_ok-pending.ensures.pending

pub returns-clause-cost : goal.returns-clause-cost
returns-clause-cost g c =
    let es = map read_entry c.args.relvars.now.list.entries in
    let sources = c.evaluate_list.ensures.cost in
    let constraints = c.admit_pending.ensures.cost (evaluated es es (map read_assignment c.args.list.now)) c.in_ok-pending.ensures.pending in
    omega (arith, sources, constraints)
