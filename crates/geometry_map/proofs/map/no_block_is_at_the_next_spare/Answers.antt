use Rattle.geometry_map.proofs.Places.{given_spares_are_free}
use Rattle.geometry_map.proofs.map.no_block_is_at_the_next_spare.Goals as goal

pub returns : goal.returns
returns c = given_spares_are_free
