use Rattle.block_machine.proofs.KeptValues as laws
use Rattle.block_machine.proofs.laws.ruled_out_values_stay_out.Goals as goal

pub returns : goal.returns
returns c = laws.ruled_out_values_stay_out
