use Rattle.std.proofs.Common.{subst}
use Rattle.task_set.specs.Members.{IsByAge}
use Rattle.drive_scene.specs.Run.{Run, scene_of}
use Rattle.drive_core.specs.Fits.{Fits}
use Rattle.drive_core.proofs.Advancing.{somebody_is_able}
use Rattle.drive_core.proofs.drive.Drive.somebody_is_able.Goals as goal

pub returns : goal.returns
returns c some =
    let fits : Fits (scene_of c.args.self.now) c.self.inside.server =
    subst (λ (r : Run). Fits (scene_of r) c.self.inside.server) c.self.view_is c.self.invariant.fits in
    somebody_is_able (scene_of c.args.self.now) c.self.inside.server fits (subst IsByAge fits.tasks.set c.stands_by_age.ensures)
    c.some_command_may_run.ensures some
