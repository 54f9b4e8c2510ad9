use Rattle.drive_scene.proofs.DestageTurns.{leaves_commands}
use Rattle.drive_scene.proofs.laws.destages_leave_commands.Goals as goal

pub returns : goal.returns
returns c = leaves_commands
