use Rattle.assign_core.proofs.room.let_few_in.Given as goal

abbrev pub ghost-exchange_each : goal.ghost-exchange_each
ghost-exchange_each g a = g.heading
