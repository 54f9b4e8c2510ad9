use Rattle.drive_scene.proofs.Halves.{goes_on, ends}
use Rattle.drive_scene.proofs.laws.halves_are_good.Goals as goal

pub returns : goal.returns
returns c = record { on = goes_on; over = ends }
