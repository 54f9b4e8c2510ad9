use Rattle.map_generations.proofs.SafeReads.{one-worn}
use Rattle.map_generations.proofs.safety.one_slot_is_worn.Goals as goal

pub returns : goal.returns
returns c = one-worn
