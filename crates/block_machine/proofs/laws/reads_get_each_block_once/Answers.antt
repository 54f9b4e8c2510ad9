use Rattle.block_machine.proofs.ReadLaw as laws
use Rattle.block_machine.proofs.laws.reads_get_each_block_once.Goals as goal

pub returns : goal.returns
returns c = laws.reads_get_each_block_once
