use Rattle.reservations.proofs.Told.{keys-are-shown, reservations-are-shown}
use Rattle.reservations.proofs.laws.the_desk_is_shown.Goals as goal

pub returns : goal.returns
returns c = record { keys = keys-are-shown; reservation = reservations-are-shown }
