use Rattle.drive_scene.proofs.Still.{good_still}
use Rattle.drive_scene.proofs.laws.still_turns_are_good.Goals as goal

pub returns : goal.returns
returns c = good_still
