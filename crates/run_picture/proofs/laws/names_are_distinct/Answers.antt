use Rattle.run_picture.proofs.IdLaws.{names_distinct}
use Rattle.run_picture.proofs.laws.names_are_distinct.Goals as goal

pub returns : goal.returns
returns c = names_distinct
