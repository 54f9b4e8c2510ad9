use Rattle.block_machine.specs.KeptValues.{ReadsGiveTheirOwnWrite}
use Rattle.block_machine.proofs.KeptValues as histories
use Rattle.script_runner.proofs.RunLaws.{of_legal}
use Rattle.script_runner.proofs.laws.reads_give_their_own_write.Goals as goal

pub returns : goal.returns
returns c = of_legal ReadsGiveTheirOwnWrite histories.reads_give_their_own_write
