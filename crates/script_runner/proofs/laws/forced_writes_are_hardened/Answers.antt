use Rattle.block_machine.specs.Laws.{ForcedWritesAreHardened}
use Rattle.block_machine.proofs.WriteLaw as histories
use Rattle.script_runner.proofs.RunLaws.{of_task_legal}
use Rattle.script_runner.proofs.laws.forced_writes_are_hardened.Goals as goal

pub returns : goal.returns
returns c = of_task_legal ForcedWritesAreHardened histories.forced_writes_are_hardened
