use Rattle.write_cache.proofs.BlockByBlock.{clean_data-without_clean}
use Rattle.write_cache.proofs.laws.forgetting_ends_one_block.Goals as goal

pub returns : goal.returns
returns c = clean_data-without_clean
