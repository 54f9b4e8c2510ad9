use Rattle.std.proofs.Common.{sym, subst}
use Rattle.reservations.specs.declared.state.State.{State}
use Rattle.reservations.specs.Desk.{IsDesk}
use Rattle.reservations.proofs.Start.{start-is-desk}
use Rattle.reservations.proofs.desk.Desk.cut.Goals as goal

pub invariant_of-self : goal.invariant_of-self
invariant_of-self c = subst (λ (d : State). IsDesk d) (sym c.at_start-self-inside.ensures) start-is-desk
