use Rattle.block_machine.specs.Laws.{HardenedValuesStay}
use Rattle.block_machine.proofs.BlockLaws as histories
use Rattle.script_runner.proofs.RunLaws.{of_legal}
use Rattle.script_runner.proofs.laws.hardened_values_stay.Goals as goal

pub returns : goal.returns
returns c = of_legal HardenedValuesStay histories.hardened_values_stay
