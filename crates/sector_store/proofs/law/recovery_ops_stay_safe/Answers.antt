use Rattle.sector_store.proofs.MapOps.{recovery_ops_stay_safe}
use Rattle.sector_store.proofs.law.recovery_ops_stay_safe.Goals as goal

pub returns : goal.returns
returns c = recovery_ops_stay_safe c.recoveries_stay_safe.ensures c.torn_writes_keep_maps_safe.ensures c.safety_is_by_place.ensures
