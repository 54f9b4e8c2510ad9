use Rattle.block_machine.specs.Stages.{EntriesFitTheirStage}
use Rattle.block_machine.proofs.StageLaw as histories
use Rattle.script_runner.proofs.RunLaws.{of_task_legal}
use Rattle.script_runner.proofs.laws.entries_fit_their_stage.Goals as goal

pub returns : goal.returns
returns c = of_task_legal EntriesFitTheirStage histories.entries_fit_their_stage
