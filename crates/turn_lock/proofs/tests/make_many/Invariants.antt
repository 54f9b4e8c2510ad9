use Rattle.turn_lock.specs.Pass.{Belongs}
use Rattle.turn_lock.proofs.tests.make_many.Given as goal

abbrev pub invariant-loop : goal.invariant-loop
invariant-loop g l = Belongs l.lock l.pass
