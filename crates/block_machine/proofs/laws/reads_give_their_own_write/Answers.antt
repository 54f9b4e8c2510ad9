use Rattle.block_machine.proofs.KeptValues as laws
use Rattle.block_machine.proofs.laws.reads_give_their_own_write.Goals as goal

pub returns : goal.returns
returns c = laws.reads_give_their_own_write
