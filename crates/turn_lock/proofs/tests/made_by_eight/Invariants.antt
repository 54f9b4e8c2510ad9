use Rattle.turn_lock.proofs.tests.made_by_eight.Given as goal

abbrev pub ghosts-make_by_eight : goal.ghosts-make_by_eight
ghosts-make_by_eight g a = record { name = a.blank.name; parts = a.blank.parts }
