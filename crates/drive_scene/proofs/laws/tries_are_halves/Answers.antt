use Rattle.drive_scene.proofs.GetTurns.{half_none}
use Rattle.drive_scene.proofs.laws.tries_are_halves.Goals as goal

pub returns : goal.returns
returns c = half_none
