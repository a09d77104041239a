use Rattle.std.proofs.Common.{map, sym, ◌∙◌}
use Rattle.value_core.specs.Limits.{most_rows_in_all}
use Rattle.tree_core.specs.Relvars.{read_entry}
use Rattle.meaning_core.specs.Logs.{turned_relvar}
use Rattle.relvar_logs.specs.Changes.{changed}
use Rattle.relvar_logs.specs.Room.{rows_of_logs}
use Rattle.stored_views.specs.Stored.{rows_among}
use Rattle.assign_core.specs.Breaches.{rows_of_all}
use Rattle.assign_core.proofs.CrowdLemmas.{fits_all, fits_not_logs, fits_not_stored}
use Rattle.assign_core.proofs.rooms.all_fit.Goals as goal

pub returns-in-Some-room_beside : goal.returns-in-Some-room_beside
returns-in-Some-room_beside g c =
    let es = map read_entry c.args.relvars.now.list.entries in
    let new = changed c.args.changes.now es in
    let all = g.behind.1 in
    let logs = rows_of_logs (map (λ r. (r.0, turned_relvar all r.1)) es) in
    c.are_few.ensures ∙ fits_all (rows_of_all new) logs (rows_among all es) c.in-Some.room c.in-Some-room_beside.room most_rows_in_all c.in-Some.ensures.left c.in-Some-room_beside.ensures

pub returns-in-None-room_beside : goal.returns-in-None-room_beside
returns-in-None-room_beside g c =
    let es = map read_entry c.args.relvars.now.list.entries in
    let new = changed c.args.changes.now es in
    let all = g.behind.1 in
    let logs = rows_of_logs (map (λ r. (r.0, turned_relvar all r.1)) es) in
    sym (fits_not_stored (rows_of_all new) logs (rows_among all es) c.in-Some.room most_rows_in_all c.in-Some.ensures.left c.in-None-room_beside.ensures)

pub returns-in-None : goal.returns-in-None
returns-in-None g c =
    let es = map read_entry c.args.relvars.now.list.entries in
    let new = changed c.args.changes.now es in
    let all = g.behind.1 in
    let logs = rows_of_logs (map (λ r. (r.0, turned_relvar all r.1)) es) in
    sym (fits_not_logs (rows_of_all new) logs (rows_among all es) most_rows_in_all c.in-None.ensures.left)
