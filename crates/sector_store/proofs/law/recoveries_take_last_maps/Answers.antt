use Rattle.sector_store.proofs.Histories.{recoveries_take_last_maps}
use Rattle.sector_store.proofs.law.recoveries_take_last_maps.Goals as goal

pub returns : goal.returns
returns c = recoveries_take_last_maps c.recovery_takes_kept_maps.ensures
