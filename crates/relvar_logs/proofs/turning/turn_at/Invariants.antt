use Rattle.relvar_logs.proofs.turning.turn_at.Given as goal

abbrev pub ghost-turn : goal.ghost-turn
ghost-turn g a = g.all
