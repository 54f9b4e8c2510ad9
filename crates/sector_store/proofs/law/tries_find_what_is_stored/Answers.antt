use Rattle.sector_store.proofs.Strays.{tries_find_what_is_stored}
use Rattle.sector_store.proofs.law.tries_find_what_is_stored.Goals as goal

pub returns : goal.returns
returns c = tries_find_what_is_stored
