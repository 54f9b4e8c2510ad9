use Rattle.drive_scene.proofs.PassTurns.{half_passed_hardened}
use Rattle.drive_scene.proofs.laws.passes_to_harden_are_halves.Goals as goal

pub returns : goal.returns
returns c = half_passed_hardened
