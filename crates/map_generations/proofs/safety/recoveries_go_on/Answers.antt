use Rattle.map_generations.proofs.SafeWrites.{recoveries-go_on}
use Rattle.map_generations.proofs.safety.recoveries_go_on.Goals as goal

pub returns : goal.returns
returns c = recoveries-go_on
