use Rattle.history_checker.proofs.GoodLaws.{none_follow}
use Rattle.history_checker.proofs.laws.none_may_follow.Goals as goal

pub returns : goal.returns
returns c = none_follow
