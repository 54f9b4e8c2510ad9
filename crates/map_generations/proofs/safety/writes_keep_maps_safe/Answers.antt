use Rattle.map_generations.proofs.SafeWrites.{writes-safe}
use Rattle.map_generations.proofs.safety.writes_keep_maps_safe.Goals as goal

pub returns : goal.returns
returns c = writes-safe
