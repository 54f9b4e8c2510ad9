use Rattle.map_generations.proofs.SafeWrites.{safety-by_place}
use Rattle.map_generations.proofs.safety.safety_is_by_place.Goals as goal

pub returns : goal.returns
returns c = safety-by_place
