use Rattle.std.proofs.Common.{◌≡◌, true, map, sym, ap, subst, ◌∙◌, length, Option, Ok}
use Rattle.std.specs.Prelude.{Vec}
use Rattle.std.specs.Global.{Global}
use Rattle.std.proofs.lemmas.Result.{err_from_is_err_and}
use Rattle.value_core.specs.Values.{Relation}
use Rattle.tree_core.specs.Items.{read_assignment}
use Rattle.tree_core.specs.Relvars.{Entries, read_relvars, read_entry}
use Rattle.meaning_core.specs.StoredRows.{AreStored}
use Rattle.relvar_logs.specs.Changes.{Changes, changed}
use Rattle.relvar_logs.proofs.EntryLemmas.{entries_length}
use Rattle.relvar_logs.specs.Turning.{AreNext}
use Rattle.stored_views.specs.NextRows.{renewed}
use Rattle.assign_core.specs.Assignments.{kept_or_refused}
use Rattle.assign_core.specs.Moving.{IsCrowded}
use Rattle.assign_core.specs.Room.{have_room}
use Rattle.assign_core.proofs.ChangeLemmas.{same_length}
use Rattle.assign_core.proofs.MovingLemmas.{admitted_moving, fault_moving}
use Rattle.assign_core.proofs.CrowdLemmas.{refused_crowded}
use Rattle.assign_core.proofs.moving.prepare_moving.Goals as goal

pub returns-in_err-changes-clause-refused : goal.returns-in_err-changes-clause-refused
returns-in_err-changes-clause-refused g c =
    let es = map read_entry c.args.relvars.now.list.entries in
    let p = err_from_is_err_and c.from_residual.result c.from_residual.ensures.1 in
    rw (p.1, p.2) (fault_moving (λ (v : Vec (Option Relation) Global). changed v.items es) es (map read_assignment c.args.list.now) c.in_err-changes.field-0.0 c.in_err-changes.ensures.value)

pub ready_beside-requires-clause-length : goal.ready_beside-requires-clause-length
ready_beside-requires-clause-length g c =
    let raw = c.args.relvars.now.list.entries in
    ap (λ (cs : Changes). length cs) c.as_slice.ensures.value ∙ (same_length c.in_ok-changes.changes.items (map read_entry raw) c.in_ok-changes.ensures.changes ∙ entries_length raw)

pub returns-in_err-logs-clause-refused : goal.returns-in_err-logs-clause-refused
returns-in_err-logs-clause-refused g c =
    let es = map read_entry c.args.relvars.now.list.entries in
    let new = changed c.in_ok-changes.changes.items es in
    let refuse = c.in_err-logs.field-0.0 in
    let crowded = subst (λ (z : Changes). IsCrowded (changed z es) refuse) c.as_slice.ensures.value c.in_err-logs.ensures.refused in
    let p = err_from_is_err_and c.from_residual-in_err-logs.result c.from_residual-in_err-logs.ensures.1 in
    rw (p.1, p.2) (refused_crowded new es (map read_assignment c.args.list.now) refuse c.in_ok-changes.ensures.value crowded)

pub returns-in_err-ready-clause-refused : goal.returns-in_err-ready-clause-refused
returns-in_err-ready-clause-refused g c =
    let es = map read_entry c.args.relvars.now.list.entries in
    let new = changed c.in_ok-changes.changes.items es in
    let room = subst (λ (z : Changes). have_room (changed z es) ≡ true) c.as_slice.ensures.value c.in_ok-logs.ensures.room in
    let p = err_from_is_err_and c.from_residual-in_err-ready.result c.from_residual-in_err-ready.ensures.1 in
    rw (p.1, p.2) (admitted_moving es new (map read_assignment c.args.list.now) c.in_err-ready.field-0.0 c.in_ok-changes.ensures.value room c.in_err-ready.ensures.refused)

pub returns-clause-moving : goal.returns-clause-moving
returns-clause-moving g c =
    let es = map read_entry c.args.relvars.now.list.entries in
    let s = read_relvars c.args.relvars.now in
    let made = c.in_ok-ready.ensures.made in
    record {
      ready = c.in_ok-ready.ensures.ready;
      values = c.in_ok-changes.ensures.value ∙ ap Ok (sym made);
      room = ap have_room made ∙ subst (λ (z : Changes). have_room (changed z es) ≡ true) c.as_slice.ensures.value c.in_ok-logs.ensures.room;
      admitted = ap kept_or_refused made ∙ (c.in_ok-ready.ensures.admitted ∙ ap Ok (sym made));
      logs =
          subst (λ (z : Entries). AreNext s.accepted z c.in_ok-logs.logs.items z) (sym made)
          (subst (λ (z : Changes). AreNext s.accepted (changed z es) c.in_ok-logs.logs.items (changed z es)) c.as_slice.ensures.value c.in_ok-logs.ensures.logs);
      rows =
          subst (λ (z : Entries). AreStored z (renewed c.in_ok-logs.rows.items c.args.stored.now)) (sym made)
          (subst (λ (z : Changes). AreStored (changed z es) (renewed c.in_ok-logs.rows.items c.args.stored.now)) c.as_slice.ensures.value c.in_ok-logs.ensures.rows);
      places = c.in_ok-logs.ensures.places;
    }
