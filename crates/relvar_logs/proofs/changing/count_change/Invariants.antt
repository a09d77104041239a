use Rattle.tree_core.specs.Relvars.{read_relvars}
use Rattle.relvar_logs.proofs.changing.count_change.Given as goal

abbrev pub ghost-change_log : goal.ghost-change_log
ghost-change_log a = (read_relvars a.relvars.now).relvars
