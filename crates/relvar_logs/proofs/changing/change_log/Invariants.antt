use Rattle.relvar_logs.proofs.changing.change_log.Given as goal

abbrev pub ghost-change_at : goal.ghost-change_at
ghost-change_at g a = g.all
