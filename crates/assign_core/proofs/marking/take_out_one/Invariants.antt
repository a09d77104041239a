use Rattle.assign_core.proofs.marking.take_out_one.Given as goal

abbrev pub ghost-cut_hashes : goal.ghost-cut_hashes
ghost-cut_hashes g a = g.heading
