use Rattle.drive_scene.proofs.Still.{good_damage}
use Rattle.drive_scene.proofs.laws.damage_turns_are_good.Goals as goal

pub returns : goal.returns
returns c = good_damage
