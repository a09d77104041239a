use Rattle.assign_core.proofs.logs.logs_fit.Given as goal

abbrev pub ghost-room_beside : goal.ghost-room_beside
ghost-room_beside g a = g.behind
