use Rattle.geometry_map.proofs.Validity.{test_tells_valid_maps}
use Rattle.geometry_map.proofs.map.the_test_tells_valid_maps.Goals as goal

pub returns : goal.returns
returns c = test_tells_valid_maps
