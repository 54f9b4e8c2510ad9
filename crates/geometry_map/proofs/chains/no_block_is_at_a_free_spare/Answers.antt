use Rattle.geometry_map.proofs.Places.{free_spares_are_no_places}
use Rattle.geometry_map.proofs.chains.no_block_is_at_a_free_spare.Goals as goal

pub returns : goal.returns
returns c = free_spares_are_no_places
