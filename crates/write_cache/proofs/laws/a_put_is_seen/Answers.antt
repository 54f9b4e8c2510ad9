use Rattle.write_cache.proofs.BlockByBlock.{newest-with_newest}
use Rattle.write_cache.proofs.laws.a_put_is_seen.Goals as goal

pub returns : goal.returns
returns c = newest-with_newest
