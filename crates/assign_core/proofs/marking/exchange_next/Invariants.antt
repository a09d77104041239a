use Rattle.assign_core.proofs.marking.exchange_next.Given as goal

abbrev pub ghost-exchange_one : goal.ghost-exchange_one
ghost-exchange_one g a = g.heading

abbrev pub ghost-place : goal.ghost-place
ghost-place g a = g.heading
