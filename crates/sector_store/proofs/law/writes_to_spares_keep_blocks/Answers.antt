use Rattle.sector_store.proofs.SpareSectors.{writes_to_spares_keep_blocks}
use Rattle.sector_store.proofs.law.writes_to_spares_keep_blocks.Goals as goal

pub returns : goal.returns
returns c = writes_to_spares_keep_blocks c.no_block_is_at_a_free_spare.ensures
