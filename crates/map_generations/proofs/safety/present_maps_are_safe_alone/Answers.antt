use Rattle.map_generations.proofs.SafeWrites.{present-safe_alone}
use Rattle.map_generations.proofs.safety.present_maps_are_safe_alone.Goals as goal

pub returns : goal.returns
returns c = present-safe_alone
