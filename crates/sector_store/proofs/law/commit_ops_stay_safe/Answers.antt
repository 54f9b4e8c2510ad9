use Rattle.sector_store.proofs.MapOps.{commit_ops_stay_safe}
use Rattle.sector_store.proofs.law.commit_ops_stay_safe.Goals as goal

pub returns : goal.returns
returns c = commit_ops_stay_safe c.commits_stay_safe.ensures c.torn_writes_keep_maps_safe.ensures c.safety_is_by_place.ensures
