use Rattle.geometry_map.proofs.Places.{blocks_lie_on_user_sectors}
use Rattle.geometry_map.proofs.map.blocks_are_at_user_sectors.Goals as goal

pub returns : goal.returns
returns c = blocks_lie_on_user_sectors
