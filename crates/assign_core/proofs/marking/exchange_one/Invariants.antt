use Rattle.assign_core.proofs.marking.exchange_one.Given as goal

abbrev pub ghost-renew_hashes : goal.ghost-renew_hashes
ghost-renew_hashes g a = g.heading

abbrev pub ghost-place : goal.ghost-place
ghost-place g a = g.heading

abbrev pub ghost-take_out_one : goal.ghost-take_out_one
ghost-take_out_one g a = g.heading
