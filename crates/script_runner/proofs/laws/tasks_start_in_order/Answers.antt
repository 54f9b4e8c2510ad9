use Rattle.history_laws.specs.Order.{TasksStartInOrder}
use Rattle.history_laws.proofs.OrderLaw as histories
use Rattle.script_runner.proofs.RunLaws.{of_task_legal}
use Rattle.script_runner.proofs.laws.tasks_start_in_order.Goals as goal

pub returns : goal.returns
returns c = of_task_legal TasksStartInOrder histories.tasks_start_in_order
