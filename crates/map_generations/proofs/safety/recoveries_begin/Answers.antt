use Rattle.map_generations.proofs.SafeWrites.{recoveries-begin}
use Rattle.map_generations.proofs.safety.recoveries_begin.Goals as goal

pub returns : goal.returns
returns c = recoveries-begin
