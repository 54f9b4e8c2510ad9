use Rattle.write_cache.proofs.BlockByBlock.{newest-without_dirty}
use Rattle.write_cache.proofs.laws.settling_ends_one_block.Goals as goal

pub returns : goal.returns
returns c = newest-without_dirty
