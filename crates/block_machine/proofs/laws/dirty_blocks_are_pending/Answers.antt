use Rattle.block_machine.proofs.KeptValues as laws
use Rattle.block_machine.proofs.laws.dirty_blocks_are_pending.Goals as goal

pub returns : goal.returns
returns c = laws.dirty_blocks_are_pending
