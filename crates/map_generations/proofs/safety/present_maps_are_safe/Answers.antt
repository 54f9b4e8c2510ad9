use Rattle.map_generations.proofs.SafeWrites.{present-safe}
use Rattle.map_generations.proofs.safety.present_maps_are_safe.Goals as goal

pub returns : goal.returns
returns c = present-safe
