use Rattle.assign_core.proofs.rooms.all_fit.Given as goal

abbrev pub ghost-room_beside : goal.ghost-room_beside
ghost-room_beside g a = g.behind

abbrev pub ghost-room_beside-2 : goal.ghost-room_beside-2
ghost-room_beside-2 g a = g.behind.1
