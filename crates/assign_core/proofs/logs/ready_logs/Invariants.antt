use Rattle.tree_core.specs.Relvars.{read_relvars}
use Rattle.relvar_logs.specs.Changes.{changed}
use Rattle.assign_core.proofs.logs.ready_logs.Given as goal

abbrev pub ghost-logs_fit : goal.ghost-logs_fit
ghost-logs_fit a = ((read_relvars a.relvars.now).accepted, changed a.changes.now (read_relvars a.relvars.now).relvars)
