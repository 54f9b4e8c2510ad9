use Rattle.block_machine.proofs.Counting as counting
use Rattle.block_machine.proofs.Ends as ends
use Rattle.block_machine.proofs.Starts as starts
use Rattle.block_machine.proofs.Statuses as statuses
use Rattle.block_machine.proofs.laws.commands_are_accounted_for.Goals as goal

pub returns : goal.returns
returns c = record {
  sum = counting.commands_are_accounted_for;
  statuses = statuses.ends_have_their_status;
  once = ends.none_ends_twice;
  started = starts.successes_follow_starts;
}
