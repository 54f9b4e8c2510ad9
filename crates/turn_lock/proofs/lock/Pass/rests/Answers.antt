use Rattle.std.proofs.Common.{ap, subst}
use Rattle.turn_lock.specs.Pass.{InSeen}
use Rattle.turn_lock.proofs.lock.Pass.rests.Goals as goal

pub returns-clause-in_seen : goal.returns-clause-in_seen
returns-clause-in_seen g c = subst InSeen (ap (λ k. k.view) c.self.view_is) c.self.invariant.in_seen
