use Rattle.block_machine.specs.Laws.{ReadsGiveHardenedOrNewer}
use Rattle.block_machine.proofs.Values as histories
use Rattle.script_runner.proofs.RunLaws.{of_legal}
use Rattle.script_runner.proofs.laws.reads_give_hardened_or_newer.Goals as goal

pub returns : goal.returns
returns c = of_legal ReadsGiveHardenedOrNewer histories.reads_give_hardened_or_newer
