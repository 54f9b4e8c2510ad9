use Rattle.block_machine.specs.Laws.{FirstReadSettles}
use Rattle.block_machine.proofs.BlockLaws as histories
use Rattle.script_runner.proofs.RunLaws.{of_legal}
use Rattle.script_runner.proofs.laws.first_read_settles.Goals as goal

pub returns : goal.returns
returns c = of_legal FirstReadSettles histories.first_read_settles
