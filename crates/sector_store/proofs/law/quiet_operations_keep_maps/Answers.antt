use Rattle.sector_store.proofs.Blocks.{quiet_ops_keep_maps}
use Rattle.sector_store.proofs.law.quiet_operations_keep_maps.Goals as goal

pub returns : goal.returns
returns c = quiet_ops_keep_maps (record {
  taken = c.present_maps_are_taken.ensures;
  safe = c.present_maps_are_safe_alone.ensures;
  found = c.recovery_takes_the_present_map.ensures;
  by_place = c.safety_is_by_place.ensures;
})
