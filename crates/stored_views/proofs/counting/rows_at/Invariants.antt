use Rattle.stored_views.proofs.counting.rows_at.Given as goal

abbrev pub ghost-rows_of : goal.ghost-rows_of
ghost-rows_of g a = g.behind
