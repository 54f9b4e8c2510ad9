use Rattle.map_generations.proofs.SafeWrites.{numbers-written}
use Rattle.map_generations.proofs.safety.writes_keep_numbers.Goals as goal

pub returns : goal.returns
returns c = numbers-written
