-- The parts of a drive are what its turns have come to.
use Rattle.std.specs.Prelude.{◌≡◌, ℕ, ◌≤◌, ◌<◌, false, true, List, [], length, map, Some, None, All}
use Rattle.std.specs.Map.{keys_of}
use Rattle.std.specs.Option.{option_map}
use Rattle.disk_base.specs.declared.address.Lba.{Lba}
use Rattle.disk_base.specs.declared.address.Psn.{Psn}
use Rattle.disk_base.specs.declared.block.Value.TheVariants.{Data}
use Rattle.platter_model.specs.Sector.{is_faulty}
use Rattle.platter_model.specs.TrueLog.{is_off, strays}
use Rattle.write_cache.specs.Contents.{Contents, newest, clean_data}
use Rattle.sector_store.specs.Stored.{stored}
use Rattle.sector_store.specs.State.{Contained}
use Rattle.block_machine.specs.Blocks.{is_dirty}
use Rattle.block_machine.specs.Blocks as blocks
use Rattle.history_replay.specs.declared.known.Known.{Known}
use Rattle.history_replay.specs.Known.{scan_of}
use Rattle.history_replay.specs.Warning.{KnownWait}
use Rattle.drive_core.specs.declared.server.Server.{Server}
use Rattle.drive_scene.specs.Scene.{Scene, capacity}
use Rattle.drive_scene.specs.Holds.{IsApart}
use Rattle.drive_scene.specs.Evidence.{IsKnown}
use Rattle.drive_scene.specs.GoodTurn.{IsStood, window_at_most}
use Rattle.drive_core.specs.Accepting.{accepted_of}
use Rattle.drive_scene.specs.View.{view}
use Rattle.drive_core.specs.Commands.{IsStaged}
use Rattle.drive_scene.specs.Present.{IsPresentMap}

-- the store has the map and the operations, the map is there, the power is on, no cut is armed, the store is ready, and no sector has a
-- write fault
pub record HasOps (s : Scene) (store : Contained) : Type 0 where
  pub map : store.map ≡ s.map
  pub ops : store.platter.ops ≡ s.ops
  pub present : IsPresentMap s.map s.ops
  pub powered : is_off s.ops ≡ false
  pub unarmed : store.platter.armed ≡ None
  pub ready : store.ready ≡ true
  pub sound : (p : Psn) → is_faulty p s.ops ≡ false

-- a clean value of a block of the drive: the block isn't dirty, the value is known, and, while no operation is a stray, it is what is stored
pub record IsClean (s : Scene) (b : Lba) (bytes : List ℕ) : Type 0 where
  pub below : b.0 < capacity s
  pub undirty : is_dirty (s.hist.blocks b.0) ≡ false
  pub known : IsKnown s.entries s.since b (Data bytes)
  pub stored : strays s.ops ≡ 0 → stored s.map s.ops b ≡ Data bytes

-- the cache's dirty blocks are those of the history, with their newest values and in their order, they are the drive's, and these values are known;
-- its clean ones are clean
pub record IsCached (s : Scene) (cache : Contents) : Type 0 where
  pub dirty : (b : Lba) → blocks.newest (s.hist.blocks b.0) ≡ option_map Data (newest b cache)
  pub ages : map (λ k. k.0) (keys_of cache.dirty) ≡ s.hist.dirty
  pub below : (b : Lba) (bytes : List ℕ) → newest b cache ≡ Some bytes → b.0 < capacity s
  pub known : (b : Lba) (bytes : List ℕ) → newest b cache ≡ Some bytes → IsKnown s.entries s.since b (Data bytes)
  pub clean : (b : Lba) (bytes : List ℕ) → clean_data b cache ≡ Some bytes → IsClean s b bytes

-- mode values, attentions and the scan are the history's; no attentions wait but those that are ever raised, and the map isn't
-- corrupt
pub record KnowsHistory (s : Scene) (known : Known) : Type 0 where
  pub capacity : known.capacity ≡ capacity s
  pub settings : known.settings ≡ s.hist.settings
  pub retry : s.hist.settings.retry ≤ 20
  pub waiting : known.waiting ≡ s.hist.waiting
  pub warned : KnownWait known.waiting
  pub corrupt : known.corrupt ≡ s.hist.corrupt
  pub readable : s.hist.corrupt ≡ false
  pub scan : scan_of known.scan ≡ s.hist.scan

-- the set is the history's, and each command in it came
pub record HasTasks (s : Scene) (d : Server) : Type 0 where
  pub set : d.set ≡ s.hist.set
  pub arrived : d.arrived ≡ s.hist.arrived
  pub came : All (λ m. m.task.c ≤ s.hist.arrived) s.hist.set

pub record Fits (s : Scene) (d : Server) : Type 0 where
  pub size : s.map.size ≡ s.size
  pub store : HasOps s d.store
  pub cached : IsCached s d.store.cache
  pub known : KnowsHistory s d.known
  pub tasks : HasTasks s d
  pub staged : (c : ℕ) → IsStaged (view s c) (accepted_of d.commands.items c)
  pub apart : IsApart s
  pub windows : (c : ℕ) → length (s.windows c) ≤ window_at_most
  pub stands : IsStood s.map s.ops s.hist.blocks
  -- no destage failed
  pub unstuck : (b : ℕ) → s.back.stuck b ≡ false
  -- no move is in flight: nothing opens one yet
  pub flightless : s.back.flights ≡ []
