use Rattle.turn_lock.proofs.tests.made_by_all.Given as goal

abbrev pub ghosts-make_by_all : goal.ghosts-make_by_all
ghosts-make_by_all g a = record { name = a.blank.name; parts = a.blank.parts }
