use Rattle.map_generations.proofs.SafeReads.{taken-present}
use Rattle.map_generations.proofs.safety.present_maps_are_taken.Goals as goal

pub returns : goal.returns
returns c = taken-present
