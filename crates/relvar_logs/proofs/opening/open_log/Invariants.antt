use Rattle.relvar_logs.proofs.opening.open_log.Given as goal

abbrev pub ghost-fitting_log : goal.ghost-fitting_log
ghost-fitting_log a = a.data.now
