use Rattle.history_checker.proofs.AllCome.{of_script}
use Rattle.history_checker.proofs.laws.good_histories_have_lines_of_the_script.Goals as goal

pub returns : goal.returns
returns c = of_script
