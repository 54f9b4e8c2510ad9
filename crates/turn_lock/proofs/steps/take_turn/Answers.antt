use Rattle.std.proofs.Common.{ap}
use Rattle.turn_lock.proofs.Passes.{comes_as}
use Rattle.turn_lock.proofs.steps.take_turn.Goals as goal

pub returns-in-Some-claim-clause-home : goal.returns-in-Some-claim-clause-home
returns-in-Some-claim-clause-home g c = comes_as _ _ c.in-Some-claim.home (ap (λ m. m.0) c.loop.invariant.2) c.in-Some-claim.ensures.some.1
