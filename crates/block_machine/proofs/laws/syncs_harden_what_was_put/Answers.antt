use Rattle.block_machine.proofs.Hardens as laws
use Rattle.block_machine.proofs.laws.syncs_harden_what_was_put.Goals as goal

pub returns : goal.returns
returns c = laws.syncs_harden_what_was_put
