use Rattle.reservations.proofs.Ends.{reservations-are-their-own}
use Rattle.reservations.proofs.laws.reservations_are_their_own.Goals as goal

pub returns : goal.returns
returns c = reservations-are-their-own
