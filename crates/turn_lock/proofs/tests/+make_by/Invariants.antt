use Rattle.turn_lock.proofs.tests.+make_by.Given as goal

abbrev pub decreases-make_by : goal.decreases-make_by
decreases-make_by g l = l.passes
