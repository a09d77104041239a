use Rattle.std.proofs.Common.{map, refl, sym, subst, ◌∙◌, List, Option}
use Rattle.std.proofs.lemmas.Result.{err_from_is_err_and}
use Rattle.value_core.specs.Values.{Relation}
use Rattle.log_times.specs.Kept.{PlainLog}
use Rattle.tree_core.specs.Relvars.{read_entry}
use Rattle.meaning_core.specs.StoredRows.{HaveTheirRows}
use Rattle.relvar_logs.specs.Changes.{changed}
use Rattle.relvar_logs.specs.Turning.{AreNext}
use Rattle.stored_views.specs.NextRows.{renewed}
use Rattle.assign_core.proofs.CrowdLemmas.{crowded_logs, crowded_told, next_before, room_told, rows_before}
use Rattle.assign_core.proofs.rooms.ready_beside.Goals as goal

pub returns-in_err-logs-clause-refused : goal.returns-in_err-logs-clause-refused
returns-in_err-logs-clause-refused g c =
    let es = map read_entry c.args.relvars.now.list.entries in
    let p = err_from_is_err_and c.from_residual.result c.from_residual.ensures.1 in
    rw (p.1, p.2) (crowded_logs (changed c.args.changes.now es) c.in_err-logs.field-0.0 c.in_err-logs.ensures.refused)

pub all_fit-requires : goal.all_fit-requires
all_fit-requires g c =
    let es = map read_entry c.args.relvars.now.list.entries in
    let new = changed c.args.changes.now es in (
      c.requires.room,
      (
        c.requires.length,
        (
          subst (λ (ts : List (Option PlainLog)). AreNext c.args.relvars.now.accepted new ts es) (sym c.as_slice.ensures.value)
              (next_before c.args.relvars.now.accepted new c.in_ok-logs.logs.items c.args.changes.now es c.in_ok-logs.ensures.next),
          subst (λ (rows : List (Option Relation)). HaveTheirRows new es (renewed rows c.args.stored.now)) (sym c.as_slice-2.ensures.value)
              (rows_before new c.args.changes.now es (renewed c.in_ok-rows.rows.items c.args.stored.now) c.in_ok-rows.ensures.rows),
        ),
      ),
    )

pub returns-then-all_fit-clause-room : goal.returns-then-all_fit-clause-room
returns-then-all_fit-clause-room g c =
    let es = map read_entry c.args.relvars.now.list.entries in
    room_told c.args.changes.now es (renewed c.in_ok-rows.rows.items c.args.stored.now) c.in_ok-rows.ensures.rows c.in_ok-logs.ensures.room (sym c.all_fit.ensures ∙ c.if-all_fit.true)

pub returns-clause-refused : goal.returns-clause-refused
returns-clause-refused g c =
    let es = map read_entry c.args.relvars.now.list.entries in
    (refl, crowded_told c.args.changes.now es (sym c.all_fit.ensures ∙ c.if-all_fit.false))
