use Rattle.operator_tests.proofs.tests.operators_give_their_boxes.Given as goal

abbrev pub ghosts-given : goal.ghosts-given
ghosts-given g a = record { name = a.blank.name; parts = a.blank.parts }
