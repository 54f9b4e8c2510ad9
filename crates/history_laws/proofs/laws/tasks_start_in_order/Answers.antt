use Rattle.history_laws.proofs.OrderLaw as laws
use Rattle.history_laws.proofs.laws.tasks_start_in_order.Goals as goal

pub returns : goal.returns
returns c = laws.tasks_start_in_order
