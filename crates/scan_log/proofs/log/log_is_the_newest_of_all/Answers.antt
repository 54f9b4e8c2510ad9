use Rattle.scan_log.proofs.Newest.{newest_64-push}
use Rattle.scan_log.proofs.log.log_is_the_newest_of_all.Goals as goal

pub returns : goal.returns
returns c = newest_64-push
