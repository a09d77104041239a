use Rattle.std.proofs.Common.{sym, subst, refl, Ok, Err}
use Rattle.std.proofs.lemmas.Result.{err_from_is_err_and}
use Rattle.tree_core.specs.Relvars.{State, read_relvars}
use Rattle.assign_core.specs.Databases.{IsKept}
use Rattle.assign_core.specs.Exchanges.{with_ready}
use Rattle.assign_core.specs.Hashed.{AreHashed}
use Rattle.assign_core.specs.InPlace.{changed_in_place, IsPrepared}
use Rattle.assign_core.proofs.InPlaceLemmas.{in_place_kept}
use Rattle.assign_core.proofs.LogLemmas.{hashed_turned, turned_kept}
use Rattle.assign_core.proofs.RenewedLemmas.{settled_keeps}
use Rattle.assign_core.proofs.RuleLemmas.{settled_assigned}
use Rattle.assign_core.proofs.in_place.perform_prepared.Goals as goal

-- ---- rows in place

pub exchange_in_place-requires : goal.exchange_in_place-requires
exchange_in_place-requires g c =
    let s = read_relvars c.args.relvars.now in
    let h = subst (IsPrepared s c.requires.prepared.0) c.in-Rows.is c.requires.prepared.1 in
    (refl, (c.requires.kept, (c.requires.step, (c.requires.room, (c.requires.hashed, h.0)))))

pub returns-in_err-exchange_in_place-in-Rows-clause-assigned : goal.returns-in_err-exchange_in_place-in-Rows-clause-assigned
returns-in_err-exchange_in_place-in-Rows-clause-assigned g c list is =
    let p = err_from_is_err_and c.from_residual.result c.from_residual.ensures.1 in
    rw (p.1, p.2) (read_relvars c.exchange_in_place.new.relvars, (tt, c.in_err-exchange_in_place-in-Rows.ensures.err), refl)

pub returns-in_ok-exchange_in_place-in-Rows-clause-assigned : goal.returns-in_ok-exchange_in_place-in-Rows-clause-assigned
returns-in_ok-exchange_in_place-in-Rows-clause-assigned g c list is =
    let s = read_relvars c.args.relvars.now in
    let h = subst (IsPrepared s list) c.in-Rows.is is in
    let mid : State = record s { relvars = changed_in_place c.in-Rows.change s.relvars } in
    (mid, settled_assigned (Ok tt) s mid (changed_in_place c.in-Rows.change s.relvars) list (h.2 _) h.1 (h.3, refl), c.in_ok-exchange_in_place-in-Rows.ensures.done)

pub returns-in_ok-exchange_in_place-in-Rows-clause-kept : goal.returns-in_ok-exchange_in_place-in-Rows-clause-kept
returns-in_ok-exchange_in_place-in-Rows-clause-kept g c =
    let s = read_relvars c.args.relvars.now in
    let h = subst (IsPrepared s c.requires.prepared.0) c.in-Rows.is c.requires.prepared.1 in
    subst IsKept (sym c.in_ok-exchange_in_place-in-Rows.ensures.done)
    (turned_kept (record s { relvars = changed_in_place c.in-Rows.change s.relvars }) (in_place_kept s c.in-Rows.change c.requires.kept h.0 c.requires.prepared.0 h.1 h.3))

-- ---- new values

pub returns-in_err-settle-in-Values-clause-assigned : goal.returns-in_err-settle-in-Values-clause-assigned
returns-in_err-settle-in-Values-clause-assigned g c list is =
    let s = read_relvars c.args.relvars.now in
    let h = subst (IsPrepared s list) c.in-Values.is is in
    let now = read_relvars c.settle.new.relvars in
    let refuse = c.in_err-settle-in-Values.field-0.0 in
    let p = err_from_is_err_and c.from_residual-in_err-settle-in-Values.result c.from_residual-in_err-settle-in-Values.ensures.1 in
    rw (p.1, p.2) (now, settled_assigned (Err refuse) s now (with_ready c.in-Values.ready s.relvars) list (h.2 _) h.1 c.in_err-settle-in-Values.ensures.settled, refl)

pub returns-in_ok-settle-in-Values-clause-assigned : goal.returns-in_ok-settle-in-Values-clause-assigned
returns-in_ok-settle-in-Values-clause-assigned g c list is =
    let s = read_relvars c.args.relvars.now in
    let h = subst (IsPrepared s list) c.in-Values.is is in
    let mid = read_relvars c.settle.new.relvars in
    (mid, settled_assigned (Ok tt) s mid (with_ready c.in-Values.ready s.relvars) list (h.2 _) h.1 c.in_ok-settle-in-Values.ensures.settled, c.count.ensures.counted)

pub returns-in_ok-settle-in-Values-clause-kept : goal.returns-in_ok-settle-in-Values-clause-kept
returns-in_ok-settle-in-Values-clause-kept g c =
    let s = read_relvars c.args.relvars.now in
    let list = c.requires.prepared.0 in
    let h = subst (IsPrepared s list) c.in-Values.is c.requires.prepared.1 in
    let mid = read_relvars c.settle.new.relvars in
    subst IsKept (sym c.count.ensures.counted) (turned_kept mid (settled_keeps (Ok tt) s mid c.in-Values.ready list c.requires.kept h.0 h.1 c.in_ok-settle-in-Values.ensures.settled))

pub returns-in_ok-settle-in-Values-clause-hashed : goal.returns-in_ok-settle-in-Values-clause-hashed
returns-in_ok-settle-in-Values-clause-hashed g c =
    let mid = read_relvars c.settle.new.relvars in
    subst (λ (t : State). AreHashed c.settle.new.hashed t.relvars) (sym c.count.ensures.counted) (hashed_turned c.settle.new.hashed mid.relvars c.settle.ensures.hashed)
