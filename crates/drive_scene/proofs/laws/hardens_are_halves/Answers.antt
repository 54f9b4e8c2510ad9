use Rattle.drive_scene.proofs.HardenTurns.{half_hardened}
use Rattle.drive_scene.proofs.laws.hardens_are_halves.Goals as goal

pub returns : goal.returns
returns c = half_hardened
