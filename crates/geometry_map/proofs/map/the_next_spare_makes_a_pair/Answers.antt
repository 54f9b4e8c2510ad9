use Rattle.geometry_map.proofs.Places.{given_spares_make_pairs}
use Rattle.geometry_map.proofs.map.the_next_spare_makes_a_pair.Goals as goal

pub returns : goal.returns
returns c = given_spares_make_pairs
