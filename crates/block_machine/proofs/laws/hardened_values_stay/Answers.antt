use Rattle.block_machine.proofs.BlockLaws as laws
use Rattle.block_machine.proofs.laws.hardened_values_stay.Goals as goal

pub returns : goal.returns
returns c = laws.hardened_values_stay
