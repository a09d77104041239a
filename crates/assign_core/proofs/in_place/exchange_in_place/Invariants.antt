use Rattle.assign_core.proofs.in_place.exchange_in_place.Given as goal

abbrev pub ghost-change_log : goal.ghost-change_log
ghost-change_log g a = g.all
