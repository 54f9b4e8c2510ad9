use Rattle.block_machine.specs.KeptValues.{RuledOutValuesStayOut}
use Rattle.block_machine.proofs.KeptValues as histories
use Rattle.script_runner.proofs.RunLaws.{of_legal}
use Rattle.script_runner.proofs.laws.ruled_out_values_stay_out.Goals as goal

pub returns : goal.returns
returns c = of_legal RuledOutValuesStayOut histories.ruled_out_values_stay_out
