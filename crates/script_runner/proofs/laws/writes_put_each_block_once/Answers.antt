use Rattle.block_machine.specs.Lives.{WritesPutEachBlockOnce}
use Rattle.block_machine.proofs.PutLaw as histories
use Rattle.script_runner.proofs.RunLaws.{of_task_legal}
use Rattle.script_runner.proofs.laws.writes_put_each_block_once.Goals as goal

pub returns : goal.returns
returns c = of_task_legal WritesPutEachBlockOnce histories.writes_put_each_block_once
