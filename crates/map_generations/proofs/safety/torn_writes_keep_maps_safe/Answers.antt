use Rattle.map_generations.proofs.SafeWrites.{torn-safe}
use Rattle.map_generations.proofs.safety.torn_writes_keep_maps_safe.Goals as goal

pub returns : goal.returns
returns c = torn-safe
