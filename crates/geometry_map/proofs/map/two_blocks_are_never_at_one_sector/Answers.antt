use Rattle.geometry_map.proofs.Places.{blocks_have_own_sectors}
use Rattle.geometry_map.proofs.map.two_blocks_are_never_at_one_sector.Goals as goal

pub returns : goal.returns
returns c = blocks_have_own_sectors
