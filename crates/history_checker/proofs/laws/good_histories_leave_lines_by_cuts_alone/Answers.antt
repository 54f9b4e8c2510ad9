use Rattle.history_checker.proofs.Falling.{left_by_cuts}
use Rattle.history_checker.proofs.laws.good_histories_leave_lines_by_cuts_alone.Goals as goal

pub returns : goal.returns
returns c = left_by_cuts
