use Rattle.sector_store.proofs.SpareSectors.{spares_are_user_sectors}
use Rattle.sector_store.proofs.law.spares_are_user_sectors.Goals as goal

pub returns : goal.returns
returns c = spares_are_user_sectors
