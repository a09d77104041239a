use Rattle.std.proofs.Common.{map, Option}
use Rattle.std.specs.Prelude.{Vec}
use Rattle.std.specs.Global.{Global}
use Rattle.std.proofs.lemmas.Result.{err_from_is_err_and}
use Rattle.value_core.specs.Values.{Relation}
use Rattle.tree_core.specs.Items.{read_assignment}
use Rattle.tree_core.specs.Relvars.{read_entry}
use Rattle.relvar_logs.specs.Changes.{changed}
use Rattle.assign_core.specs.Assignments.{evaluated}
use Rattle.assign_core.proofs.PendingLemmas.{gives_stopped}
use Rattle.assign_core.proofs.evaluating.evaluate_all.Goals as goal

pub returns-in_err-changes-clause-refused : goal.returns-in_err-changes-clause-refused
returns-in_err-changes-clause-refused g c =
    let es = map read_entry c.args.relvars.now.list.entries in
    let p = err_from_is_err_and c.from_residual.result c.from_residual.ensures.1 in
    rw (p.1, p.2) (gives_stopped (λ (v : Vec (Option Relation) Global). changed v.items es) (evaluated es es (map read_assignment c.args.list.now)) c.in_err-changes.field-0.0 c.in_err-changes.ensures.value)

pub returns-clause-pending : goal.returns-clause-pending
returns-clause-pending g c = (c.in_ok-changes.ensures.changes, c.in_ok-changes.ensures.value)
