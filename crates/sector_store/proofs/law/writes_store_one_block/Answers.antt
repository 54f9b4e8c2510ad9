use Rattle.sector_store.proofs.Blocks.{writes_store_one_block}
use Rattle.sector_store.proofs.law.writes_store_one_block.Goals as goal

pub returns : goal.returns
returns c = writes_store_one_block (record {
  taken = c.present_maps_are_taken.ensures;
  safe = c.present_maps_are_safe_alone.ensures;
  found = c.recovery_takes_the_present_map.ensures;
  by_place = c.safety_is_by_place.ensures;
}) c.blocks_are_at_user_sectors.ensures c.two_blocks_are_never_at_one_sector.ensures
