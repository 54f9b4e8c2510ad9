use Rattle.block_machine.proofs.PutLaw as laws
use Rattle.block_machine.proofs.laws.writes_put_each_block_once.Goals as goal

pub returns : goal.returns
returns c = laws.writes_put_each_block_once
