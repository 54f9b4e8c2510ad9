use Rattle.map_generations.proofs.SafeWrites.{one_more}
use Rattle.map_generations.proofs.safety.records_stand.Goals as goal

pub returns : goal.returns
returns c = one_more
