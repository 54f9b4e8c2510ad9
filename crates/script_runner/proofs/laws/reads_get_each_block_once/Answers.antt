use Rattle.block_machine.specs.Laws.{ReadsGetEachBlockOnce}
use Rattle.block_machine.proofs.ReadLaw as histories
use Rattle.script_runner.proofs.RunLaws.{of_task_legal}
use Rattle.script_runner.proofs.laws.reads_get_each_block_once.Goals as goal

pub returns : goal.returns
returns c = of_task_legal ReadsGetEachBlockOnce histories.reads_get_each_block_once
