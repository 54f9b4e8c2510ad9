use Rattle.block_machine.proofs.BlockLaws as laws
use Rattle.block_machine.proofs.laws.first_read_settles.Goals as goal

pub returns : goal.returns
returns c = laws.first_read_settles
