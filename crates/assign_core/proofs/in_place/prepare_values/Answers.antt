use Rattle.std.proofs.Common.{map, ap, subst, ◌∙◌, length}
use Rattle.std.proofs.lemmas.Result.{err_from_is_err_and}
use Rattle.tree_core.specs.Relvars.{read_entry}
use Rattle.relvar_logs.specs.Changes.{Changes, changed}
use Rattle.relvar_logs.proofs.EntryLemmas.{entries_length}
use Rattle.assign_core.specs.Assignments.{IsRefusedFor}
use Rattle.assign_core.specs.Logs.{if_log_room}
use Rattle.assign_core.proofs.ChangeLemmas.{same_length}
use Rattle.assign_core.proofs.LogLemmas.{room_full}
use Rattle.assign_core.proofs.in_place.prepare_values.Goals as goal

pub ready_logs-requires-clause-length : goal.ready_logs-requires-clause-length
ready_logs-requires-clause-length g c =
    let raw = c.args.relvars.now.list.entries in
    ap (λ (cs : Changes). length cs) c.as_slice.ensures.value ∙ (same_length c.args.changes.items (map read_entry raw) c.requires.changes ∙ entries_length raw)

pub returns-in_err-next-clause-refused : goal.returns-in_err-next-clause-refused
returns-in_err-next-clause-refused g c list meant =
    let es = map read_entry c.args.relvars.now.list.entries in
    let cs = c.args.changes.items in
    let refuse = c.in_err-next.field-0.0 in
    let told = subst (λ (z : Changes). IsRefusedFor refuse (if_log_room (changed z es))) c.as_slice.ensures.value c.in_err-next.ensures.refused in
    let p = err_from_is_err_and c.from_residual.result c.from_residual.ensures.1 in
    rw (p.1, p.2) (room_full es (changed cs es) list refuse meant told)
