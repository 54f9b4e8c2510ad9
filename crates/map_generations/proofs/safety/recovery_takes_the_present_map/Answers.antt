use Rattle.map_generations.proofs.SafeReads.{present-taken}
use Rattle.map_generations.proofs.safety.recovery_takes_the_present_map.Goals as goal

pub returns : goal.returns
returns c = present-taken
