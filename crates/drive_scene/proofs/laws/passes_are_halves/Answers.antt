use Rattle.drive_scene.proofs.PassTurns.{half_passed}
use Rattle.drive_scene.proofs.laws.passes_are_halves.Goals as goal

pub returns : goal.returns
returns c = half_passed
