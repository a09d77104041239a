use Rattle.tree_core.specs.Relvars.{read_relvars}
use Rattle.meaning_core.specs.Declarations.{with_log}
use Rattle.relvar_logs.proofs.opening.is_room.Given as goal

abbrev pub ghost-room_beside : goal.ghost-room_beside
ghost-room_beside g a = ((read_relvars a.relvars.now).accepted, (with_log (read_relvars a.relvars.now) g.declared).relvars)
