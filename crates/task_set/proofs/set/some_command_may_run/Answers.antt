use Rattle.task_set.proofs.Free as free
use Rattle.task_set.proofs.set.some_command_may_run.Goals as goal

pub returns : goal.returns
returns c = free.some_command_may_run
