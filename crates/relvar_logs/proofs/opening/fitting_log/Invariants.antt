use Rattle.relvar_logs.proofs.opening.fitting_log.Given as goal

abbrev pub ghost-is_room : goal.ghost-is_room
ghost-is_room g a = g.declared
