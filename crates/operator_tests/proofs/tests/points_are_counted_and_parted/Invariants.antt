use Rattle.operator_tests.proofs.tests.points_are_counted_and_parted.Given as goal

abbrev pub ghosts-count_of : goal.ghosts-count_of
ghosts-count_of g a = record { name = a.blank.name; parts = a.blank.parts }

abbrev pub ghosts-parts_of : goal.ghosts-parts_of
ghosts-parts_of g a = record { name = a.blank.name; parts = a.blank.parts }
