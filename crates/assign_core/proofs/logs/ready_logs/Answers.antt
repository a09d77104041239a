use Rattle.std.proofs.Common.{map, sym, ◌∙◌}
use Rattle.std.proofs.lemmas.Result.{err_from_is_err_and}
use Rattle.tree_core.specs.Relvars.{read_entry}
use Rattle.relvar_logs.specs.Changes.{changed}
use Rattle.assign_core.proofs.LogLemmas.{next_changed, room_changed, full_refused, no_room_refused}
use Rattle.assign_core.proofs.logs.ready_logs.Goals as goal

pub returns-in_err-next-clause-refused : goal.returns-in_err-next-clause-refused
returns-in_err-next-clause-refused c =
    let es = map read_entry c.args.relvars.now.list.entries in
    let p = err_from_is_err_and c.from_residual.result c.from_residual.ensures.1 in
    rw (p.1, p.2) (full_refused c.args.changes.now es c.in_err-next.field-0.0 c.in_err-next.ensures.refused)

pub returns-then-logs_fit-clause-next : goal.returns-then-logs_fit-clause-next
returns-then-logs_fit-clause-next c =
    let es = map read_entry c.args.relvars.now.list.entries in
    next_changed c.args.relvars.now.accepted (changed c.args.changes.now es) c.in_ok-next.next.items c.args.changes.now es c.in_ok-next.ensures.next

pub returns-then-logs_fit-clause-room : goal.returns-then-logs_fit-clause-room
returns-then-logs_fit-clause-room c =
    let es = map read_entry c.args.relvars.now.list.entries in
    room_changed c.args.changes.now es ∙ (sym c.logs_fit.ensures ∙ c.if-logs_fit.true)

pub returns-clause-refused : goal.returns-clause-refused
returns-clause-refused c =
    let es = map read_entry c.args.relvars.now.list.entries in
    no_room_refused (changed c.args.changes.now es) (room_changed c.args.changes.now es ∙ (sym c.logs_fit.ensures ∙ c.if-logs_fit.false))
