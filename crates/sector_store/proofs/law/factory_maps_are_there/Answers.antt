use Rattle.sector_store.proofs.Made.{factory_maps_are_there}
use Rattle.sector_store.proofs.law.factory_maps_are_there.Goals as goal

pub returns : goal.returns
returns c =
    factory_maps_are_there c.present_maps_are_taken.ensures c.present_maps_are_safe_alone.ensures c.safety_is_by_place.ensures
    c.written_maps_are_present.ensures c.blocks_are_at_user_sectors.ensures
