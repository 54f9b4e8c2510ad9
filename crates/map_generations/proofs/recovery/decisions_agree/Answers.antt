use Rattle.map_generations.proofs.Rule.{same_decision}
use Rattle.map_generations.proofs.recovery.decisions_agree.Goals as goal

pub returns : goal.returns
returns c size reads d e of_d of_e = same_decision size reads d e of_d of_e
