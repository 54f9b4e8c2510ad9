use Rattle.drive_scene.proofs.Pushes.{map_stays}
use Rattle.drive_scene.proofs.laws.maps_stay.Goals as goal

pub returns : goal.returns
returns c = map_stays
