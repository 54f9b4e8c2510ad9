use Rattle.run_picture.proofs.NestingLaw.{pictures_nested}
use Rattle.run_picture.proofs.laws.pictures_are_nested.Goals as goal

pub returns : goal.returns
returns c = pictures_nested
