use Rattle.map_generations.proofs.SafeChains.{commits-safe}
use Rattle.map_generations.proofs.safety.commits_stay_safe.Goals as goal

pub returns : goal.returns
returns c = commits-safe
