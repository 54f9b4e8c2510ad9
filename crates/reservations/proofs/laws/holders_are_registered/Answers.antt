use Rattle.reservations.proofs.Reached.{holders-are-registered}
use Rattle.reservations.proofs.laws.holders_are_registered.Goals as goal

pub returns : goal.returns
returns c = holders-are-registered c.known_stay_known.ensures
