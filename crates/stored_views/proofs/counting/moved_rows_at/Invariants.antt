use Rattle.stored_views.proofs.counting.moved_rows_at.Given as goal

abbrev pub ghost-moved_rows_of : goal.ghost-moved_rows_of
ghost-moved_rows_of g a = g.behind
