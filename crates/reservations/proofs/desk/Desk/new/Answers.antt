use Rattle.std.proofs.Common.{sym, subst}
use Rattle.reservations.specs.declared.state.State.{State}
use Rattle.reservations.specs.Desk.{IsDesk}
use Rattle.reservations.proofs.Start.{start-is-desk}
use Rattle.reservations.proofs.desk.Desk.new.Goals as goal

pub invariant_of-result : goal.invariant_of-result
invariant_of-result c = subst (λ (d : State). IsDesk d) (sym c.at_start.ensures) start-is-desk
