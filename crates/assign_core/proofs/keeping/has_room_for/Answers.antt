use Rattle.std.proofs.Common.{map, sym}
use Rattle.value_core.specs.Limits.{most_rows_in_all}
use Rattle.tree_core.specs.Relvars.{read_entry, read_relvars}
use Rattle.meaning_core.specs.Logs.{turned_logs}
use Rattle.relvar_logs.specs.Room.{are_each_few, rows_of_logs}
use Rattle.stored_views.specs.Stored.{rows_of_stored}
use Rattle.assign_core.specs.Breaches.{rows_of_all}
use Rattle.assign_core.proofs.KeepingLemmas.{room_fits, room_not}
use Rattle.assign_core.proofs.LogLemmas.{none_ready}
use Rattle.assign_core.proofs.keeping.has_room_for.Goals as goal

pub room_beside-requires : goal.room_beside-requires
room_beside-requires c =
    let s = read_relvars c.args.relvars.now in
    (c.requires.room, none_ready s.accepted s.relvars s.relvars c.requires.step)

pub returns-in-None : goal.returns-in-None
returns-in-None c =
    let es = map read_entry c.args.relvars.now.list.entries in
    sym (room_not (rows_of_all es) (rows_of_logs (turned_logs es)) (rows_of_stored es) c.args.more most_rows_in_all (are_each_few (turned_logs es)) c.in-None.ensures.left)
