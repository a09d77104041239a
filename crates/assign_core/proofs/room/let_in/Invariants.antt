use Rattle.assign_core.proofs.room.let_in.Given as goal

abbrev pub ghost-let_few_in : goal.ghost-let_few_in
ghost-let_few_in a = a.value.now.heading

abbrev pub ghost-let_many_in : goal.ghost-let_many_in
ghost-let_many_in a = a.value.now.heading
