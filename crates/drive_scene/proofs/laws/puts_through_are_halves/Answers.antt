use Rattle.drive_scene.proofs.PutTurns.{half_through}
use Rattle.drive_scene.proofs.laws.puts_through_are_halves.Goals as goal

pub returns : goal.returns
returns c = half_through
