-- What a scene has of one command.
use Rattle.std.specs.Prelude.{ℕ, Bool, false, List, Option}
use Rattle.std.specs.Option.{option_map_or}
use Rattle.task_set.specs.declared.member.Member.{Member}
use Rattle.task_set.specs.Members.{member_of}
use Rattle.mode_pages.specs.declared.settings.Settings.{Settings}
use Rattle.platter_model.specs.declared.op.Op.{Op}
use Rattle.geometry_map.specs.DefectMap.{DefectMap}
use Rattle.command_engine.specs.declared.step.Recovery.{Recovery}
use Rattle.block_machine.specs.Blocks.{is_dirty}
use Rattle.block_machine.specs.State.{Duty}
use Rattle.drive_scene.specs.Scene.{Scene}
use Rattle.drive_scene.specs.Holds.{held_block}
use Rattle.geometry_map.specs.declared.size.Size.{Size}

-- what a scene has of one command: the drive's measures, the map, the command in the set, what it asks for and owes, its window, the mode values with
-- which it started, its last recovery, and whether the block that it holds is dirty
pub record View : Type 0 where
  pub size : Size
  pub map : DefectMap
  pub member : Option Member
  pub duty : Duty
  pub window : List Op
  pub settings : Settings
  pub recovered : Option Recovery
  pub holds_dirty : Bool

abbrev pub view : Scene → ℕ → View
view s c = record {
  size = s.size;
  map = s.map;
  member = member_of s.hist.set c;
  duty = s.hist.duties c;
  window = s.windows c;
  settings = s.settings c;
  recovered = s.recovered c;
  holds_dirty = option_map_or (λ b. is_dirty (s.hist.blocks b)) (held_block s c) false;
}
