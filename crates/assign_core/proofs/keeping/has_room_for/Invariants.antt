use Rattle.std.specs.Prelude.{map}
use Rattle.tree_core.specs.Relvars.{read_entry}
use Rattle.assign_core.proofs.keeping.has_room_for.Given as goal

abbrev pub ghost-room_beside : goal.ghost-room_beside
ghost-room_beside a = (a.relvars.now.accepted, map read_entry a.relvars.now.list.entries)
