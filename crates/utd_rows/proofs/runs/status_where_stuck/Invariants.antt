use Rattle.utd_rows.proofs.runs.status_where_stuck.Given as goal

abbrev pub ghosts-play : goal.ghosts-play
ghosts-play a = record { name = a.blank.name; parts = a.blank.parts }
