-- The run of every drive is good.
use Rattle.std.proofs.Common.{ℕ, List, refl, sym, subst}
use Rattle.platter_model.specs.TrueLog.{IsTrueLog}
use Rattle.geometry_map.specs.DefectMap.{IsValidMap}
use Rattle.block_machine.specs.declared.turn.Turn.{Turn}
use Rattle.drive_scene.specs.declared.made.Made.{Made}
use Rattle.drive_core.specs.declared.server.Server.{Server}
use Rattle.drive_scene.specs.Scene.{scene_at_start}
use Rattle.drive_scene.specs.Run.{IsGoodRun, run_of, beats_of}
use Rattle.drive_core.specs.Kept.{Kept}
use Rattle.drive_scene.specs.Laws.{MapsStay}

pub good_run : MapsStay → (made : Made) (d : Server) (turns : List Turn) (coming : ℕ) → Kept (run_of made d.store turns coming) d → IsTrueLog d.store.platter.ops
    → IsGoodRun (run_of made d.store turns coming)
good_run stay made d turns coming kept log = record {
  valid = subst IsValidMap ((stay (scene_at_start made) (beats_of (run_of made d.store turns coming))).0 refl).0 kept.fits.store.present.there.valid;
  follow = kept.follow;
  own = sym kept.fits.store.ops;
  log = log;
  good = kept.good;
}
