use Rattle.geometry_map.specs.Size.{capacity_of}
use Rattle.block_machine.specs.Attentions.{attentions_at_start}
use Rattle.block_machine.proofs.KeptValues as histories
use Rattle.script_runner.proofs.laws.dirty_blocks_are_pending.Goals as goal

pub returns : goal.returns
returns c = λ order script turns ops good. histories.dirty_blocks_are_pending (capacity_of good.size) attentions_at_start turns
