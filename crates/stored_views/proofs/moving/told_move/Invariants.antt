use Rattle.stored_views.proofs.moving.told_move.Given as goal

abbrev pub ghost-moved_by : goal.ghost-moved_by
ghost-moved_by g a = g.after.1
