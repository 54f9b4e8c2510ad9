use Rattle.drive_scene.proofs.GetTurns.{half_got}
use Rattle.drive_scene.proofs.laws.gets_are_halves.Goals as goal

pub returns : goal.returns
returns c = half_got
