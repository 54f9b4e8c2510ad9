use Rattle.block_machine.specs.Laws.{ReadsGiveWhatWasPutLast}
use Rattle.block_machine.proofs.BlockLaws as histories
use Rattle.script_runner.proofs.RunLaws.{of_legal}
use Rattle.script_runner.proofs.laws.reads_give_what_was_put_last.Goals as goal

pub returns : goal.returns
returns c = of_legal ReadsGiveWhatWasPutLast histories.reads_give_what_was_put_last
