-- What a turn does to the parts of a drive.
use Rattle.std.specs.Prelude.{◌≡◌, ℕ, ◌+◌, ◌≤◌, List, ◌++◌, Option, None}
use Rattle.platter_model.specs.declared.op.Op.{Op}
use Rattle.task_set.specs.Members.{without}
use Rattle.sector_store.specs.State.{Contained}
use Rattle.block_machine.specs.declared.entry.Entry.{Entry}
use Rattle.block_machine.specs.declared.turn.Label.{Label}
use Rattle.drive_scene.specs.declared.answer.Ended as ended
use Rattle.drive_core.specs.declared.server.Server.{Server}
use Rattle.drive_core.specs.Accepting.{Drops}
use Rattle.drive_scene.specs.Scene.{Scene, beat}
use Rattle.drive_scene.specs.After.{scene_after}
use Rattle.drive_scene.specs.GoodTurn.{GoodTurn}
use Rattle.drive_scene.specs.Ending.{ended_in}
use Rattle.drive_core.specs.Fits.{Fits}
use Rattle.drive_scene.specs.Able.{refusal_of_work}

-- some operations were added, and with these entries they are a good turn of a scene, after which the drive's parts fit again;
-- at most one command came, and this one ended
pub record Moves (label : Label) (s : Scene) (old new : Server) (entries : List Entry) (told : Option ended.Ended) : Type 0 where
  pub ops : List Op
  pub added : new.store.platter.ops ≡ old.store.platter.ops ++ ops
  pub good : GoodTurn s (beat label entries ops)
  pub fits : Fits (scene_after s (beat label entries ops)) new
  pub counted : new.arrived ≤ old.arrived + 1
  pub ended : told ≡ ended_in s entries

-- the parts of a drive fit a scene in which work on a command isn't refused
pub record MayWork (s : Scene) (d : Server) (c : ℕ) : Type 0 where
  pub fits : Fits s d
  pub free : refusal_of_work s 0 c ≡ None

-- room aside, nothing changes
pub record IsSameStore (old new : Contained) : Type 0 where
  pub map : new.map ≡ old.map
  pub ready : new.ready ≡ old.ready
  pub cache : new.cache ≡ old.cache
  pub ops : new.platter.ops ≡ old.platter.ops
  pub armed : new.platter.armed ≡ old.platter.armed

pub record IsSameServer (old new : Server) : Type 0 where
  pub store : IsSameStore old.store new.store
  pub set : new.set ≡ old.set
  pub commands : new.commands.items ≡ old.commands.items
  pub arrived : new.arrived ≡ old.arrived
  pub known : new.known ≡ old.known

-- a command is in no more, and nothing else changes
pub record Leaves (old new : Server) (c : ℕ) : Type 0 where
  pub store : new.store ≡ old.store
  pub set : new.set ≡ without old.set c
  pub commands : Drops old.commands.items new.commands.items c
  pub arrived : new.arrived ≡ old.arrived
  pub known : new.known ≡ old.known
