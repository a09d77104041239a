use Rattle.stored_views.proofs.moving.move_at.Given as goal

abbrev pub ghost-move_of : goal.ghost-move_of
ghost-move_of g a = g.after
