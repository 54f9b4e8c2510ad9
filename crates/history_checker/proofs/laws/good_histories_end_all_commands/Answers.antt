use Rattle.history_checker.proofs.AllEnded.{all_ended}
use Rattle.history_checker.proofs.laws.good_histories_end_all_commands.Goals as goal

pub returns : goal.returns
returns c = all_ended
