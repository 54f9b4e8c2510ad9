-- A turn that has no operation and is about no block.
use Rattle.std.specs.Prelude.{◌≡◌, ℕ, ◌≤◌, true, false, List, [], length}
use Rattle.std.specs.List.{list_any}
use Rattle.disk_base.specs.Along.{Along}
use Rattle.disk_base.specs.declared.address.Lba.{Lba}
use Rattle.platter_model.specs.TrueLog.{is_off}
use Rattle.block_machine.specs.declared.entry.Entry.{Entry}
use Rattle.block_machine.specs.declared.turn.Label.{Label}
use Rattle.block_machine.specs.Steps.{begun, entry_after}
use Rattle.block_machine.specs.Turns.{entries_lawful, blocks_lawful}
use Rattle.drive_scene.specs.Scene.{Scene, capacity, beat}
use Rattle.drive_scene.specs.After.{scene_after}
use Rattle.drive_scene.specs.Evidence.{lba, Shows}
use Rattle.drive_scene.specs.Present.{IsPresentMap}
use Rattle.drive_scene.specs.GoodTurn.{IsStood, IsStep, AreOwn, is_on, are_on, are_in_order, waits_for_move}

-- what such a turn has to say of its entries
pub record IsStill (s : Scene) (label : Label) (entries : List Entry) : Type 0 where
  pub tasks : entries_lawful (capacity s) label (begun s.hist label) entries ≡ true
  pub blocks : blocks_lawful (capacity s) s.hist.blocks entries ≡ true
  pub shown : Along (entry_after (capacity s) label) (Shows s (beat label entries [])) (begun s.hist label) entries
  pub step : IsStep s label entries []
  pub on_none : (b : Lba) → list_any (is_on b) entries ≡ false
  pub on_one : are_on (lba 0) entries ≡ true
  pub own : AreOwn label entries
  pub order : are_in_order entries ≡ true
  pub waits : waits_for_move s label ≡ false
  pub windows : (q : ℕ) → length ((scene_after s (beat label entries [])).windows q) ≤ 50
  pub unchanged : (scene_after s (beat label entries [])).hist.blocks ≡ s.hist.blocks

-- the power is on, the map is there, and what is stored stands
pub record IsStanding (s : Scene) : Type 0 where
  pub powered : is_off s.ops ≡ false
  pub present : IsPresentMap s.map s.ops
  pub stands : IsStood s.map s.ops s.hist.blocks
