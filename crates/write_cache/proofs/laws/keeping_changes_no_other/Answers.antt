use Rattle.write_cache.proofs.BlockByBlock.{clean_data-with_clean}
use Rattle.write_cache.proofs.laws.keeping_changes_no_other.Goals as goal

pub returns : goal.returns
returns c = clean_data-with_clean
