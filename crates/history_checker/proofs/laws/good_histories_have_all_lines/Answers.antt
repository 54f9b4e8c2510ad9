use Rattle.history_checker.proofs.AllCome.{all_come}
use Rattle.history_checker.proofs.laws.good_histories_have_all_lines.Goals as goal

pub returns : goal.returns
returns c = all_come
