use Rattle.map_generations.proofs.SafeWrites.{pairs-grow}
use Rattle.map_generations.proofs.safety.pairs_may_grow.Goals as goal

pub returns : goal.returns
returns c = pairs-grow
