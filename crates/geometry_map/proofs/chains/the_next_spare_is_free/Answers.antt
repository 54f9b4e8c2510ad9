use Rattle.geometry_map.proofs.Places.{given_spares_are_next}
use Rattle.geometry_map.proofs.chains.the_next_spare_is_free.Goals as goal

pub returns : goal.returns
returns c = given_spares_are_next
