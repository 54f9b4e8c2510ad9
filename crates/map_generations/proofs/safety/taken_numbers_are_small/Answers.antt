use Rattle.map_generations.proofs.SafeReads.{small-taken}
use Rattle.map_generations.proofs.safety.taken_numbers_are_small.Goals as goal

pub returns : goal.returns
returns c = small-taken
