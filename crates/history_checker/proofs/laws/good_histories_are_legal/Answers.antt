use Rattle.history_checker.proofs.GoodLaws.{legal_histories}
use Rattle.history_checker.proofs.laws.good_histories_are_legal.Goals as goal

pub returns : goal.returns
returns c = legal_histories
