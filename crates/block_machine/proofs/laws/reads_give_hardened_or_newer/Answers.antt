use Rattle.block_machine.proofs.Values as laws
use Rattle.block_machine.proofs.laws.reads_give_hardened_or_newer.Goals as goal

pub returns : goal.returns
returns c = laws.reads_give_hardened_or_newer
