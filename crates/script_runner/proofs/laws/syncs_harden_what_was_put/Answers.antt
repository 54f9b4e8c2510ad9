use Rattle.block_machine.specs.Lives.{SyncsHardenWhatWasPut}
use Rattle.block_machine.proofs.Hardens as histories
use Rattle.script_runner.proofs.RunLaws.{of_legal}
use Rattle.script_runner.proofs.laws.syncs_harden_what_was_put.Goals as goal

pub returns : goal.returns
returns c = of_legal SyncsHardenWhatWasPut histories.syncs_harden_what_was_put
