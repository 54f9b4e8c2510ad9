use Rattle.sector_store.proofs.Made.{factory_stores_keep_maps}
use Rattle.sector_store.proofs.law.factory_stores_keep_maps.Goals as goal

pub returns : goal.returns
returns c = factory_stores_keep_maps c.factory_maps_are_there.ensures
