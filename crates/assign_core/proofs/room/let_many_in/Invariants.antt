use Rattle.assign_core.proofs.room.let_many_in.Given as goal

abbrev pub ghost-put_many : goal.ghost-put_many
ghost-put_many g a = g.heading
