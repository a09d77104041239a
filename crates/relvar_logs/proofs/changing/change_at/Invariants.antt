use Rattle.relvar_logs.proofs.changing.change_at.Given as goal

abbrev pub ghost-change_relvar : goal.ghost-change_relvar
ghost-change_relvar g a = g.all
