use Rattle.std.specs.Prelude.{map}
use Rattle.tree_core.specs.Relvars.{read_entry}
use Rattle.relvar_logs.specs.Changes.{changed}
use Rattle.assign_core.proofs.rooms.ready_beside.Given as goal

abbrev pub ghost-all_fit : goal.ghost-all_fit
ghost-all_fit g a = (a.relvars.now.accepted, changed a.changes.now (map read_entry a.relvars.now.list.entries))
