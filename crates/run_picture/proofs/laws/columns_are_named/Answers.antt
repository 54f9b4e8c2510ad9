use Rattle.run_picture.proofs.IdLaws.{columns_named}
use Rattle.run_picture.proofs.laws.columns_are_named.Goals as goal

pub returns : goal.returns
returns c = columns_named
