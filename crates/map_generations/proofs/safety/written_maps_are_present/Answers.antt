use Rattle.map_generations.proofs.SafeChains.{written-present}
use Rattle.map_generations.proofs.safety.written_maps_are_present.Goals as goal

pub returns : goal.returns
returns c = written-present
