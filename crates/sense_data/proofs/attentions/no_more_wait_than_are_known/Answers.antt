use Rattle.sense_data.proofs.Twice.{length-among}
use Rattle.sense_data.proofs.attentions.no_more_wait_than_are_known.Goals as goal

pub returns : goal.returns
returns c = length-among
