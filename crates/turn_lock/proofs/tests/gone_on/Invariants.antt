use Rattle.turn_lock.proofs.tests.gone_on.Given as goal

abbrev pub ghosts-go_on : goal.ghosts-go_on
ghosts-go_on a = record { name = a.blank.name; parts = a.blank.parts }
