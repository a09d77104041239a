use Rattle.assign_core.proofs.merging.put_many.Given as goal

abbrev pub ghost-exchange_each : goal.ghost-exchange_each
ghost-exchange_each g a = g.heading
