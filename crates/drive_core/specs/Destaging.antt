-- When the drive writes a dirty block out on its own.
use Rattle.std.specs.Prelude.{◌≡◌, Some}
use Rattle.disk_base.specs.declared.address.Lba.{Lba}
use Rattle.drive_scene.specs.Scene.{Scene}
use Rattle.drive_scene.specs.Holds.{destaged}
use Rattle.drive_core.specs.declared.server.Server.{Server}
use Rattle.drive_core.specs.Fits.{Fits}

-- the parts of a drive fit a scene in which this block is the next to be destaged
pub record MayWriteOut (s : Scene) (d : Server) (b : Lba) : Type 0 where
  pub fits : Fits s d
  pub is_next : destaged s ≡ Some b.0
