use Rattle.drive_scene.proofs.PutTurns.{half_put}
use Rattle.drive_scene.proofs.laws.puts_are_halves.Goals as goal

pub returns : goal.returns
returns c = half_put
