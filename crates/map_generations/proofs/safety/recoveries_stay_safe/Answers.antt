use Rattle.map_generations.proofs.SafeChains.{recoveries-safe}
use Rattle.map_generations.proofs.safety.recoveries_stay_safe.Goals as goal

pub returns : goal.returns
returns c = recoveries-safe
