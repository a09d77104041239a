use Rattle.std.proofs.Common.{[], map, ap, ◌∙◌, sym, subst, refl, Ok, Err}
use Rattle.std.proofs.lemmas.Result.{err_from_is_err_and}
use Rattle.tree_core.specs.Items.{read_assignment}
use Rattle.tree_core.specs.Relvars.{State, read_relvars}
use Rattle.relvar_logs.specs.Turning.{AreNext}
use Rattle.stored_views.proofs.UnstoredLemmas.{unstored}
use Rattle.assign_core.specs.Assignments.{unless_broken, unless_rule_broken}
use Rattle.assign_core.specs.Databases.{IsKept}
use Rattle.assign_core.specs.Exchanges.{with_ready}
use Rattle.assign_core.specs.Hashed.{AreHashed}
use Rattle.assign_core.proofs.BesideLemmas.{beside_room, beside_next}
use Rattle.assign_core.proofs.LogLemmas.{hashed_turned, turned_kept}
use Rattle.assign_core.proofs.RenewedLemmas.{settled_keeps}
use Rattle.assign_core.proofs.RuleLemmas.{refused_before, settled_assigned}
use Rattle.assign_core.proofs.assigning.assign_beside.Goals as goal

pub prepare-requires-clause-stored : goal.prepare-requires-clause-stored
prepare-requires-clause-stored g c = unstored (read_relvars c.args.relvars.now).relvars [] c.requires.unstored

pub returns-in_err-fill-clause-assigned : goal.returns-in_err-fill-clause-assigned
returns-in_err-fill-clause-assigned g c =
    let s = read_relvars c.args.relvars.now in
    let p = err_from_is_err_and c.from_residual.result c.from_residual.ensures.1 in
    rw (p.1, p.2) (s, (tt, refl), refl)

pub returns-in_err-ready-clause-assigned : goal.returns-in_err-ready-clause-assigned
returns-in_err-ready-clause-assigned g c =
    let s = read_relvars c.args.relvars.now in
    let list = map read_assignment c.args.list.now in
    let refuse = c.in_err-ready.field-0.0 in
    let p = err_from_is_err_and c.from_residual-in_err-ready.result c.from_residual-in_err-ready.ensures.1 in
    rw (p.1, p.2) (s, (refused_before refuse s list (beside_room s list c.requires.kept c.requires.beside _) c.in_err-ready.ensures.refused, refl), refl)

pub returns-in_err-settle-clause-assigned : goal.returns-in_err-settle-clause-assigned
returns-in_err-settle-clause-assigned g c =
    let s = read_relvars c.args.relvars.now in
    let list = map read_assignment c.args.list.now in
    let now = read_relvars c.settle.new.relvars in
    let refuse = c.in_err-settle.field-0.0 in
    let p = err_from_is_err_and c.from_residual-in_err-settle.result c.from_residual-in_err-settle.ensures.1 in
    let told =
    settled_assigned (Err refuse) s now (with_ready c.in_ok-ready.ready s.relvars) list (beside_room s list c.requires.kept c.requires.beside _) c.in_ok-ready.ensures.meant
    c.in_err-settle.ensures.settled in
    rw (p.1, p.2) (now, told, refl)

pub returns-clause-assigned : goal.returns-clause-assigned
returns-clause-assigned g c =
    let s = read_relvars c.args.relvars.now in
    let list = map read_assignment c.args.list.now in
    let mid = read_relvars c.settle.new.relvars in
    let told =
    settled_assigned (Ok tt) s mid (with_ready c.in_ok-ready.ready s.relvars) list (beside_room s list c.requires.kept c.requires.beside _) c.in_ok-ready.ensures.meant
    c.in_ok-settle.ensures.settled in
    (mid, told, c.count.ensures.counted)

pub returns-clause-kept : goal.returns-clause-kept
returns-clause-kept g c =
    let s = read_relvars c.args.relvars.now in
    let list = map read_assignment c.args.list.now in
    let mid = read_relvars c.settle.new.relvars in
    let kept = settled_keeps (Ok tt) s mid c.in_ok-ready.ready list c.requires.kept c.in_ok-ready.ensures.ready c.in_ok-ready.ensures.meant c.in_ok-settle.ensures.settled in
    subst IsKept (sym c.count.ensures.counted) (turned_kept mid kept)

pub returns-clause-hashed : goal.returns-clause-hashed
returns-clause-hashed g c =
    let mid = read_relvars c.settle.new.relvars in
    subst (λ (t : State). AreHashed c.settle.new.hashed t.relvars) (sym c.count.ensures.counted) (hashed_turned c.settle.new.hashed mid.relvars c.settle.ensures.hashed)

pub count-requires-clause-next : goal.count-requires-clause-next
count-requires-clause-next g c =
    let s = read_relvars c.args.relvars.now in
    let list = map read_assignment c.args.list.now in
    let new = with_ready c.in_ok-ready.ready s.relvars in
    let told = c.in_ok-settle.ensures.settled in
    let accepted = ap (unless_rule_broken s.rules) c.in_ok-ready.ensures.meant ∙ ap (unless_broken new) told.0 in
    let next = beside_next s list c.requires.kept c.requires.beside new c.requires.step accepted in
    subst (λ (t : State). AreNext t.accepted t.relvars [] t.relvars) (sym told.1) next
