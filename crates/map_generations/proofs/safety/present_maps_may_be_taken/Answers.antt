use Rattle.map_generations.proofs.SafeReads.{may-present}
use Rattle.map_generations.proofs.safety.present_maps_may_be_taken.Goals as goal

pub returns : goal.returns
returns c = may-present
