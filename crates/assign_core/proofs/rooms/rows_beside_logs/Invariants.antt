use Rattle.std.specs.Prelude.{map}
use Rattle.tree_core.specs.Relvars.{read_entry}
use Rattle.assign_core.proofs.rooms.rows_beside_logs.Given as goal

abbrev pub ghost-room_beside : goal.ghost-room_beside
ghost-room_beside a = map read_entry a.relvars.now.list.entries
