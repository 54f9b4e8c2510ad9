use Rattle.map_generations.proofs.SafeWrites.{numbers-by_place}
use Rattle.map_generations.proofs.safety.numbers_are_by_place.Goals as goal

pub returns : goal.returns
returns c = numbers-by_place
