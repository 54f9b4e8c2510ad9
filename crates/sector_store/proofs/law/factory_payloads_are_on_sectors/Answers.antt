use Rattle.sector_store.proofs.Made.{factory_payloads_are_on_sectors}
use Rattle.sector_store.proofs.law.factory_payloads_are_on_sectors.Goals as goal

pub returns : goal.returns
returns c = factory_payloads_are_on_sectors c.blocks_are_at_user_sectors.ensures
