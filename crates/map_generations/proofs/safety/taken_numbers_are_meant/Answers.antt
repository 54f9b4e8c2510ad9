use Rattle.map_generations.proofs.SafeReads.{numbers-taken}
use Rattle.map_generations.proofs.safety.taken_numbers_are_meant.Goals as goal

pub returns : goal.returns
returns c = numbers-taken
