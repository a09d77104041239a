use Rattle.tree_core.specs.Relvars.{read_relvars}
use Rattle.assign_core.proofs.beside.leaves_logs.Given as goal

abbrev pub ghost-room_beside : goal.ghost-room_beside
ghost-room_beside a = ((read_relvars a.relvars.now).accepted, (read_relvars a.relvars.now).relvars)
