use Rattle.std.proofs.Common.{◌≡◌, List, Bool, length, sym, ap, subst, ◌∙◌, refl, arith, Option, Ok, Err}
use Rattle.std.proofs.lemmas.Result.{err_from_is_err_and}
use Rattle.value_core.specs.Values.{Relation}
use Rattle.log_times.specs.Kept.{PlainLog}
use Rattle.tree_core.specs.Relvars.{Entries, State, read_relvars}
use Rattle.meaning_core.specs.StoredRows.{AreStored}
use Rattle.relvar_logs.specs.Turning.{AreNext}
use Rattle.assign_core.specs.Databases.{IsKept, IsSettled}
use Rattle.assign_core.specs.Exchanges.{with_ready}
use Rattle.assign_core.specs.Hashed.{AreHashed}
use Rattle.assign_core.specs.Keeping.{AreStoredIn}
use Rattle.assign_core.specs.Leanings.{DoOthersHold}
use Rattle.assign_core.proofs.LeaningLemmas.{others_hold}
use Rattle.assign_core.proofs.LogLemmas.{hashed_turned, turned_kept}
use Rattle.assign_core.proofs.MovingLemmas.{moved_assigned, moved_kept, moved_stored}
use Rattle.assign_core.proofs.StoredLemmas.{stored_counted}
use Rattle.assign_core.proofs.moving.perform_moving.Goals as goal

pub returns-in_err-told-clause-assigned : goal.returns-in_err-told-clause-assigned
returns-in_err-told-clause-assigned g c list is =
    let p = err_from_is_err_and c.from_residual.result c.from_residual.ensures.1 in
    rw (p.1, p.2) (read_relvars c.args.relvars.now, (tt, refl), refl)

pub returns-in_err-changes-clause-assigned : goal.returns-in_err-changes-clause-assigned
returns-in_err-changes-clause-assigned g c list is =
    let p = err_from_is_err_and c.from_residual-in_err-changes.result c.from_residual-in_err-changes.ensures.1 in
    rw (p.1, p.2) (read_relvars c.args.relvars.now, (tt, refl), refl)

pub move_and_check-requires-clause-others : goal.move_and_check-requires-clause-others
move_and_check-requires-clause-others g c =
    let s = read_relvars c.args.relvars.now in
    let ready = c.args.moving.ready in
    subst (λ (es : Entries). DoOthersHold es c.as_slice.result.now s.rules) (sym c.in_ok-changes.ensures.ready)
    (subst (λ (bs : List Bool). DoOthersHold (with_ready ready s.relvars) bs s.rules) (sym (c.as_slice.ensures.value ∙ c.in_ok-told.ensures)) (others_hold ready s.relvars s.rules c.requires.kept.rules))

pub returns-in_err-move_and_check-clause-assigned : goal.returns-in_err-move_and_check-clause-assigned
returns-in_err-move_and_check-clause-assigned g c list is =
    let s = read_relvars c.args.relvars.now in
    let now = read_relvars c.move_and_check.new.relvars in
    let refuse = c.in_err-move_and_check.field-0.0 in
    let settled = subst (λ (es : Entries). IsSettled (Err refuse) s now es) c.in_ok-changes.ensures.ready c.in_err-move_and_check.ensures.settled in
    let p = err_from_is_err_and c.from_residual-in_err-move_and_check.result c.from_residual-in_err-move_and_check.ensures.1 in
    rw (p.1, p.2) (now, moved_assigned s c.args.stored.now.items list c.args.moving is (Err refuse) now settled, refl)

pub returns-in_err-move_and_check-clause-stored : goal.returns-in_err-move_and_check-clause-stored
returns-in_err-move_and_check-clause-stored g c =
    let rows = c.move_and_check.new.stored.items in
    let same = c.in_err-move_and_check.ensures.settled.1 in
    let many = c.in_err-move_and_check.ensures.length in
    let l = c.requires.stored.places in
    subst (λ (t : State). AreStoredIn t rows) (sym same) (record {
      rows = subst (λ (t : State). AreStored t.relvars rows) same c.in_err-move_and_check.ensures.stored;
      room = c.requires.stored.room;
      places = omega (arith, many, l);
    })

pub count-requires-clause-next : goal.count-requires-clause-next
count-requires-clause-next g c =
    let s = read_relvars c.args.relvars.now in
    let mid = read_relvars c.move_and_check.new.relvars in
    let is = c.requires.moving.1 in
    let settled = subst (λ (es : Entries). IsSettled (Ok tt) s mid es) c.in_ok-changes.ensures.ready c.in_ok-move_and_check.ensures.settled in
    subst (λ (ts : List (Option PlainLog)). AreNext mid.accepted mid.relvars ts mid.relvars) (sym c.deref_mut.ensures.value)
    (subst (λ (t : State). AreNext t.accepted t.relvars c.args.moving.logs.items t.relvars) (sym settled.1) is.logs)

pub returns-clause-assigned : goal.returns-clause-assigned
returns-clause-assigned g c list is =
    let s = read_relvars c.args.relvars.now in
    let mid = read_relvars c.move_and_check.new.relvars in
    let settled = subst (λ (es : Entries). IsSettled (Ok tt) s mid es) c.in_ok-changes.ensures.ready c.in_ok-move_and_check.ensures.settled in
    (mid, moved_assigned s c.args.stored.now.items list c.args.moving is (Ok tt) mid settled, c.count.ensures.counted)

pub returns-clause-kept : goal.returns-clause-kept
returns-clause-kept g c =
    let s = read_relvars c.args.relvars.now in
    let mid = read_relvars c.move_and_check.new.relvars in
    let settled = subst (λ (es : Entries). IsSettled (Ok tt) s mid es) c.in_ok-changes.ensures.ready c.in_ok-move_and_check.ensures.settled in
    subst IsKept (sym c.count.ensures.counted)
    (turned_kept mid (moved_kept s c.args.stored.now.items c.requires.moving.0 c.args.moving c.requires.moving.1 (Ok tt) mid c.requires.kept settled))

pub returns-clause-hashed : goal.returns-clause-hashed
returns-clause-hashed g c =
    let mid = read_relvars c.move_and_check.new.relvars in
    subst (λ (t : State). AreHashed c.move_and_check.new.hashed t.relvars) (sym c.count.ensures.counted) (hashed_turned c.move_and_check.new.hashed mid.relvars c.move_and_check.ensures.hashed)

pub returns-clause-stored : goal.returns-clause-stored
returns-clause-stored g c =
    let s = read_relvars c.args.relvars.now in
    let mid = read_relvars c.move_and_check.new.relvars in
    let rows = c.move_and_check.new.stored.items in
    let list = c.requires.moving.0 in
    let is = c.requires.moving.1 in
    let settled = subst (λ (es : Entries). IsSettled (Ok tt) s mid es) c.in_ok-changes.ensures.ready c.in_ok-move_and_check.ensures.settled in
    let kept = moved_kept s c.args.stored.now.items list c.args.moving is (Ok tt) mid c.requires.kept settled in
    subst (λ (t : State). AreStoredIn t rows) (sym c.count.ensures.counted)
    (stored_counted mid rows kept.well_made
    (moved_stored s c.args.stored.now.items list c.args.moving is mid rows settled.1 c.move_and_check.ensures.stored c.move_and_check.ensures.length c.requires.stored.places))
