use Rattle.map_generations.proofs.SafeReads.{kept-taken}
use Rattle.map_generations.proofs.safety.recovery_takes_kept_maps.Goals as goal

pub returns : goal.returns
returns c = kept-taken
