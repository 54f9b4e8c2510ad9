use Rattle.map_generations.proofs.SafeWrites.{commits-begin}
use Rattle.map_generations.proofs.safety.commits_begin.Goals as goal

pub returns : goal.returns
returns c = commits-begin
