use Rattle.tree_core.specs.Relvars.{read_relvars}
use Rattle.assign_core.proofs.LogLemmas.{none_ready}
use Rattle.assign_core.proofs.beside.leaves_logs.Goals as goal

pub room_beside-requires : goal.room_beside-requires
room_beside-requires c =
    let s = read_relvars c.args.relvars.now in
    (c.requires.room, none_ready s.accepted s.relvars s.relvars c.requires.step)
