use Rattle.tree_core.specs.Relvars.{read_relvars}
use Rattle.relvar_logs.proofs.turning.count.Given as goal

abbrev pub ghost-turn_first : goal.ghost-turn_first
ghost-turn_first a = (read_relvars a.relvars.now).relvars
