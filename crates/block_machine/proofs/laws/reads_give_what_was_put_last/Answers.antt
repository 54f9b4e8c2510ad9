use Rattle.block_machine.proofs.BlockLaws as laws
use Rattle.block_machine.proofs.laws.reads_give_what_was_put_last.Goals as goal

pub returns : goal.returns
returns c = laws.reads_give_what_was_put_last
