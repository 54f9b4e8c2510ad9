use Rattle.map_generations.proofs.ReadBack.{records-tell}
use Rattle.map_generations.proofs.record.records_tell_maps.Goals as goal

pub returns : goal.returns
returns c = records-tell
