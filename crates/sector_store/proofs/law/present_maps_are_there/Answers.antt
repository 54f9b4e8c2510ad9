use Rattle.sector_store.proofs.Blocks.{present-there}
use Rattle.sector_store.proofs.law.present_maps_are_there.Goals as goal

pub returns : goal.returns
returns c = present-there c.present_maps_are_taken.ensures c.present_maps_are_safe_alone.ensures
