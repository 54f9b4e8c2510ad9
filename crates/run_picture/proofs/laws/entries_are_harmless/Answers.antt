use Rattle.run_picture.proofs.HarmlessLaws.{entries_harmless}
use Rattle.run_picture.proofs.laws.entries_are_harmless.Goals as goal

pub returns : goal.returns
returns c = entries_harmless
