use Rattle.sector_store.proofs.Blocks.{recovery_finds_what_is_stored}
use Rattle.sector_store.proofs.law.recovery_finds_what_is_stored.Goals as goal

pub returns : goal.returns
returns c = recovery_finds_what_is_stored c.recovery_takes_the_present_map.ensures
