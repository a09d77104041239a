use Rattle.std.proofs.Common.{[], map, sym, subst, refl, ◌∙◌, Ok, Err, ℤ, pos, ◌+ℤ◌, ◌<ℤ◌}
use Rattle.std.proofs.lemmas.Result.{err_from_is_err_and}
use Rattle.point_core.specs.Whole.{greatest_whole}
use Rattle.tree_core.specs.Items.{read_assignment}
use Rattle.tree_core.specs.Relvars.{read_relvars}
use Rattle.stored_views.proofs.UnstoredLemmas.{unstored}
use Rattle.assign_core.specs.Databases.{IsKept}
use Rattle.assign_core.specs.Exchanges.{with_ready}
use Rattle.assign_core.proofs.LogLemmas.{assigned_without_logs, settled_logs, turned_kept}
use Rattle.assign_core.proofs.RenewedLemmas.{settled_keeps}
use Rattle.assign_core.proofs.RuleLemmas.{refused_before, settled_assigned}
use Rattle.assign_core.proofs.assigning.assign_alone.Goals as goal

pub prepare-requires-clause-stored : goal.prepare-requires-clause-stored
prepare-requires-clause-stored g c = unstored (read_relvars c.args.relvars.now).relvars [] c.requires.unstored

pub returns-in_err-fill-clause-assigned : goal.returns-in_err-fill-clause-assigned
returns-in_err-fill-clause-assigned g c =
    let s = read_relvars c.args.relvars.now in
    let p = err_from_is_err_and c.from_residual.result c.from_residual.ensures.1 in
    rw (p.1, p.2) (s, (tt, refl), refl)

pub returns-in_err-ready-clause-assigned : goal.returns-in_err-ready-clause-assigned
returns-in_err-ready-clause-assigned g c =
    let s = read_relvars c.args.relvars.now in
    let list = map read_assignment c.args.list.now in
    let refuse = c.in_err-ready.field-0.0 in
    let p = err_from_is_err_and c.from_residual-in_err-ready.result c.from_residual-in_err-ready.ensures.1 in
    rw (p.1, p.2) (s, (refused_before refuse s list (assigned_without_logs s list c.requires.alone) c.in_err-ready.ensures.refused, refl), refl)

pub returns-in_err-settle-clause-assigned : goal.returns-in_err-settle-clause-assigned
returns-in_err-settle-clause-assigned g c =
    let s = read_relvars c.args.relvars.now in
    let list = map read_assignment c.args.list.now in
    let now = read_relvars c.settle.new.relvars in
    let refuse = c.in_err-settle.field-0.0 in
    let p = err_from_is_err_and c.from_residual-in_err-settle.result c.from_residual-in_err-settle.ensures.1 in
    let told = settled_assigned (Err refuse) s now (with_ready c.in_ok-ready.ready s.relvars) list (assigned_without_logs s list c.requires.alone) c.in_ok-ready.ensures.meant c.in_err-settle.ensures.settled in
    rw (p.1, p.2) (now, told, refl)

pub returns-clause-assigned : goal.returns-clause-assigned
returns-clause-assigned g c =
    let s = read_relvars c.args.relvars.now in
    let list = map read_assignment c.args.list.now in
    let mid = read_relvars c.settle.new.relvars in
    let told = settled_assigned (Ok tt) s mid (with_ready c.in_ok-ready.ready s.relvars) list (assigned_without_logs s list c.requires.alone) c.in_ok-ready.ensures.meant c.in_ok-settle.ensures.settled in
    (mid, told, c.count_alone.ensures.counted)

pub returns-clause-kept : goal.returns-clause-kept
returns-clause-kept g c =
    let s = read_relvars c.args.relvars.now in
    let list = map read_assignment c.args.list.now in
    let mid = read_relvars c.settle.new.relvars in
    let kept = settled_keeps (Ok tt) s mid c.in_ok-ready.ready list c.requires.kept c.in_ok-ready.ensures.ready c.in_ok-ready.ensures.meant c.in_ok-settle.ensures.settled in
    subst IsKept (sym c.count_alone.ensures.counted) (turned_kept mid kept)

pub count_alone-requires : goal.count_alone-requires
count_alone-requires g c =
    let s = read_relvars c.args.relvars.now in
    let logs = settled_logs (Ok tt) s (read_relvars c.settle.new.relvars) c.in_ok-ready.ready c.in_ok-ready.ensures.ready c.in_ok-settle.ensures.settled in
    record { alone = logs.0 ∙ c.requires.alone; room = subst (λ (n : ℤ). (n +ℤ pos 1) <ℤ greatest_whole) (sym logs.1) c.requires.room }
