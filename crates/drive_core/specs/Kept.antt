-- What the type of a drive keeps.
use Rattle.std.specs.Prelude.{◌≡◌, ◌≤◌, length}
use Rattle.disk_base.specs.Along.{Along}
use Rattle.drive_core.specs.declared.server.Server.{Server}
use Rattle.drive_scene.specs.Scene.{scene_at_start}
use Rattle.drive_scene.specs.After.{scene_after}
use Rattle.drive_scene.specs.GoodTurn.{GoodTurn}
use Rattle.drive_scene.specs.Run.{Run, beats_of, behind_factory, FollowFrom, scene_of}
use Rattle.drive_core.specs.Fits.{Fits}

-- the map is of the drive's measures, each turn of the run is good, the drive's parts are what they have come to, and no more
-- commands came than there are turns
pub record Kept (r : Run) (d : Server) : Type 0 where
  pub size : d.store.map.size ≡ r.made.size
  pub follow : FollowFrom 0 r.turns (length (behind_factory r.made r.ops))
  pub good : Along scene_after GoodTurn (scene_at_start r.made) (beats_of r)
  pub fits : Fits (scene_of r) d
  pub numbered : d.arrived ≤ length r.turns
