use Rattle.drive_scene.proofs.DestageTurns.{good_destage}
use Rattle.drive_scene.proofs.laws.destages_are_good.Goals as goal

pub returns : goal.returns
returns c = good_destage
