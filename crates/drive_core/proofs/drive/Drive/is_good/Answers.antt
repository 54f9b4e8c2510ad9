use Rattle.std.proofs.Common.{subst}
use Rattle.platter_model.specs.State as platter
use Rattle.platter_model.specs.TrueLog.{IsTrueLog}
use Rattle.drive_scene.specs.Run.{IsGoodRun}
use Rattle.drive_core.proofs.GoodRuns.{good_run}
use Rattle.drive_core.proofs.drive.Drive.is_good.Goals as goal

pub returns-clause-good : goal.returns-clause-good
returns-clause-good c =
    subst IsGoodRun c.self.view_is (good_run c.maps_stay.ensures c.self.inside.made c.self.inside.server c.self.inside.turns.items c.self.inside.coming c.self.invariant
    (subst (λ (p : platter.State). IsTrueLog p.ops) c.platter-platter.ensures c.has_a_true_log.ensures))
