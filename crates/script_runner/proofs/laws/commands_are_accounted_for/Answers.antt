use Rattle.block_machine.specs.Laws.{EndsHaveTheirStatus, NoneEndsTwice, SuccessesFollowStarts}
use Rattle.block_machine.proofs.Ends.{none_ends_twice}
use Rattle.block_machine.proofs.Starts.{successes_follow_starts}
use Rattle.block_machine.proofs.Statuses.{ends_have_their_status}
use Rattle.script_runner.proofs.RunLaws.{none_is_left, all_are_gone, of_task_legal}
use Rattle.script_runner.proofs.laws.commands_are_accounted_for.Goals as goal

pub returns : goal.returns
returns c = record {
  idle = none_is_left;
  sum = all_are_gone;
  statuses = of_task_legal EndsHaveTheirStatus ends_have_their_status;
  once = of_task_legal NoneEndsTwice none_ends_twice;
  started = of_task_legal SuccessesFollowStarts successes_follow_starts;
}
