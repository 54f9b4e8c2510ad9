use Rattle.read_recovery.proofs.Table.{heavy_last_two}
use Rattle.read_recovery.proofs.stage.heavy_stages_are_the_last_two.Goals as goal

pub returns : goal.returns
returns c = heavy_last_two
