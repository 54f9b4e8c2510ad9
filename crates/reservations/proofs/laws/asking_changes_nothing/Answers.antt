use Rattle.reservations.proofs.Quiet.{asking-changes-nothing}
use Rattle.reservations.proofs.Told.{attentions-are-told-once}
use Rattle.reservations.proofs.laws.asking_changes_nothing.Goals as goal

pub returns : goal.returns
returns c = record { asking = asking-changes-nothing; telling = attentions-are-told-once c.known_stay_known.ensures }
