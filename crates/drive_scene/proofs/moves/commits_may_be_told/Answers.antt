use Rattle.drive_scene.proofs.CommitTasks.{commits_may_be_told}
use Rattle.drive_scene.proofs.moves.commits_may_be_told.Goals as goal

pub returns : goal.returns
returns c = commits_may_be_told
