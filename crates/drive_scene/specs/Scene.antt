-- What the turns of a drive have come to.
use Rattle.std.specs.Prelude.{ℕ, List, [], map, Option, None}
use Rattle.mode_pages.specs.declared.settings.Settings.{Settings}
use Rattle.mode_pages.specs.Settings.{default_settings}
use Rattle.platter_model.specs.declared.op.Op.{Op}
use Rattle.platter_model.specs.declared.op.Op.TheVariants.{Wrote}
use Rattle.geometry_map.specs.declared.size.Size.{Size}
use Rattle.geometry_map.specs.Size.{capacity_of}
use Rattle.geometry_map.specs.DefectMap.{DefectMap, factory_map}
use Rattle.sector_store.specs.Factory.{factory_payloads}
use Rattle.command_engine.specs.declared.step.Recovery.{Recovery}
use Rattle.block_machine.specs.declared.entry.Entry.{Entry}
use Rattle.block_machine.specs.declared.turn.Label.{Label}
use Rattle.block_machine.specs.Attentions.{attentions_at_start}
use Rattle.block_machine.specs.State.{State, state_at_start}
use Rattle.drive_scene.specs.declared.made.Made.{Made}
use Rattle.drive_scene.specs.Background.{Background, background_at_start}

-- one turn with its own operations
pub record Beat : Type 0 where
  pub label : Label
  pub entries : List Entry
  pub ops : List Op

abbrev pub beat : Label → List Entry → List Op → Beat
beat label entries ops = record { label = label; entries = entries; ops = ops }

-- the drive's measures; the map by which blocks lie; all operations; what the history has come to; of each command its window, the
-- operations of its turns of work since it last got, put or hardened a block, had a move committed, or started; the mode values with
-- which it started; and the last block that it got past the plain read. Then all operations and entries since the power came on, and what
-- is in hand beside commands
pub record Scene : Type 0 where
  pub size : Size
  pub map : DefectMap
  pub ops : List Op
  pub hist : State
  pub windows : ℕ → List Op
  pub settings : ℕ → Settings
  pub recovered : ℕ → Option Recovery
  pub since : List Op
  pub entries : List Entry
  pub back : Background

abbrev pub capacity : Scene → ℕ
capacity s = capacity_of s.size

-- what a factory writes
abbrev pub factory_ops : Made → List Op
factory_ops made = map Wrote (factory_payloads made.size made.primary)

-- before the first turn
abbrev pub scene_at_start : Made → Scene
scene_at_start made = record {
  size = made.size;
  map = factory_map made.size made.primary;
  ops = factory_ops made;
  hist = state_at_start attentions_at_start;
  windows = λ c. [];
  settings = λ c. default_settings;
  recovered = λ c. None;
  since = factory_ops made;
  entries = [];
  back = background_at_start;
}
