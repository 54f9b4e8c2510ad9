use Rattle.run_picture.proofs.HarmlessLaws.{labels_harmless}
use Rattle.run_picture.proofs.laws.labels_are_harmless.Goals as goal

pub returns : goal.returns
returns c = labels_harmless
