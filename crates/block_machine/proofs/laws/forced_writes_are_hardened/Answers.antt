use Rattle.block_machine.proofs.WriteLaw as laws
use Rattle.block_machine.proofs.laws.forced_writes_are_hardened.Goals as goal

pub returns : goal.returns
returns c = laws.forced_writes_are_hardened
