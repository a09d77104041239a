use Rattle.relvar_logs.proofs.counting.rows_at.Given as goal

abbrev pub ghost-rows_of : goal.ghost-rows_of
ghost-rows_of g a = g.behind
