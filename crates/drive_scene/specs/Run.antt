-- What contracts see of a drive: all that it did.
use Rattle.std.specs.Prelude.{◌≡◌, ℕ, ◌≤◌, List, [], ◌∷◌, length, map, fold, drop, slice_range}
use Rattle.disk_base.specs.Along.{Along}
use Rattle.platter_model.specs.declared.op.Op.{Op}
use Rattle.platter_model.specs.TrueLog.{IsTrueLog}
use Rattle.geometry_map.specs.DefectMap.{IsValidMap, factory_map}
use Rattle.sector_store.specs.State.{Contained}
use Rattle.block_machine.specs.declared.turn.Turn.{Turn}
use Rattle.drive_scene.specs.declared.made.Made.{Made}
use Rattle.drive_scene.specs.Scene.{Scene, Beat, scene_at_start, factory_ops}
use Rattle.drive_scene.specs.After.{scene_after}
use Rattle.drive_scene.specs.GoodTurn.{GoodTurn}

-- what the factory was told, the drive's turns, the operations of its platter, and how many arrivals are still expected
pub record Run : Type 0 where
  pub made : Made
  pub turns : List Turn
  pub ops : List Op
  pub coming : ℕ

-- a drive from the factory
abbrev pub run_at_start : Made → Run
run_at_start made = record { made = made; turns = []; ops = factory_ops made; coming = 0 }

-- the run of a drive with a store
abbrev pub run_of : Made → Contained → List Turn → ℕ → Run
run_of made store turns coming = record { made = made; turns = turns; ops = store.platter.ops; coming = coming }

-- the operations behind those of the factory
unfoldable pub behind_factory : Made → List Op → List Op
behind_factory made ops = drop (length (factory_ops made)) ops

-- a turn with its own operations, of those behind the factory's
abbrev pub beat_of : List Op → Turn → Beat
beat_of ops turn = record { label = turn.label; entries = turn.entries; ops = slice_range ops turn.ops_from turn.ops_to }

-- the operations of turns follow each other from one number to another, without a gap
abbrev pub FollowFrom : ℕ → List Turn → ℕ → Type 0
FollowFrom from [] to = from ≡ to
FollowFrom from (turn ∷ turns) to = (turn.ops_from ≡ from) × (from ≤ turn.ops_to) × FollowFrom turn.ops_to turns to

-- the turns of a run with their own operations
abbrev pub beats_of : Run → List Beat
beats_of r = map (beat_of (behind_factory r.made r.ops)) r.turns

-- what the turns of a run have come to
abbrev pub scene_of : Run → Scene
scene_of r = fold scene_after (scene_at_start r.made) (beats_of r)

-- what is said of a run: its map from the factory is valid, the operations begin with the factory's and each turn has its own of those
-- behind them, the first turn from number 0 on; they are a true log, and each turn is good
pub record IsGoodRun (r : Run) : Type 0 where
  pub valid : IsValidMap (factory_map r.made.size r.made.primary)
  pub follow : FollowFrom 0 r.turns (length (behind_factory r.made r.ops))
  pub own : (scene_of r).ops ≡ r.ops
  pub log : IsTrueLog r.ops
  pub good : Along scene_after GoodTurn (scene_at_start r.made) (beats_of r)
