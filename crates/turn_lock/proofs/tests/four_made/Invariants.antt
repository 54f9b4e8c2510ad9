use Rattle.turn_lock.proofs.tests.four_made.Given as goal

abbrev pub ghosts-make_four : goal.ghosts-make_four
ghosts-make_four g a = record { name = a.blank.name; parts = a.blank.parts }
