use Rattle.reservations.proofs.Told.{keys-are-their-own}
use Rattle.reservations.proofs.laws.keys_are_their_own.Goals as goal

pub returns : goal.returns
returns c = keys-are-their-own c.known_stay_known.ensures
