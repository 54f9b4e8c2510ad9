use Rattle.sense_data.proofs.Twice.{among-stay}
use Rattle.sense_data.proofs.attentions.known_stay_known.Goals as goal

pub returns : goal.returns
returns c = λ known attentions a is among. among-stay known a attentions is among
