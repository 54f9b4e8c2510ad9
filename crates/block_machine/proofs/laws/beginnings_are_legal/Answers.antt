use Rattle.block_machine.proofs.BlockLaws as laws
use Rattle.block_machine.proofs.laws.beginnings_are_legal.Goals as goal

pub returns : goal.returns
returns c = laws.beginnings_are_legal
