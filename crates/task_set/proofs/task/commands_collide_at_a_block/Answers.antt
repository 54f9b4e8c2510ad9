use Rattle.task_set.proofs.CommonBlock.{collide_at_a_block}
use Rattle.task_set.proofs.task.commands_collide_at_a_block.Goals as goal

pub returns : goal.returns
returns c = collide_at_a_block
