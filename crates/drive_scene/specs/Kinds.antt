-- The kinds of turns: when each may come, and the history after it.
use Rattle.std.specs.Prelude.{◌≡◌, ℕ, ◌<◌, ◌≤◌, true, List, [], ◌∷◌, ◌++◌, length, Some, None, All}
use Rattle.std.specs.List.{list_any}
use Rattle.disk_base.specs.At.{put_at}
use Rattle.disk_base.specs.declared.address.Lba.{Lba}
use Rattle.disk_base.specs.declared.block.Value.{Value}
use Rattle.disk_base.specs.declared.block.Value.TheVariants.{Data}
use Rattle.platter_model.specs.declared.op.Op.{Op}
use Rattle.platter_model.specs.declared.op.Op.TheVariants.{Wrote}
use Rattle.geometry_map.specs.DefectMap.{place_of}
use Rattle.sector_store.specs.Maps.{MayBeRecovered}
use Rattle.sector_store.specs.Stored.{StoresAt, KeepsOthers, KeepsBlocks}
use Rattle.sector_store.specs.State.{placed}
use Rattle.block_machine.specs.declared.entry.Entry.{Entry}
use Rattle.block_machine.specs.declared.entry.Entry.TheVariants.{Harden, Put, Passed, Get}
use Rattle.block_machine.specs.declared.entry.Who.TheVariants.{Command, Drive}
use Rattle.block_machine.specs.declared.turn.Label.TheVariants.{Work, Destage}
use Rattle.block_machine.specs.Blocks.{Blocks, newest, after_harden, without_address}
use Rattle.block_machine.specs.State.{State}
use Rattle.block_machine.specs.Steps.{begun, entry_after}
use Rattle.drive_scene.specs.Scene.{Scene, Beat, capacity, beat}
use Rattle.drive_scene.specs.Holds.{holder_besides, destaged}
use Rattle.drive_scene.specs.Present.{IsPresentMap}
use Rattle.drive_scene.specs.Still.{IsStanding}
use Rattle.drive_scene.specs.GoodTurn.{IsStood, WritesBlockData, is_at_sector, is_one_step, window_at_most}

-- a command hardens a block of which these are the newest data: nobody else holds it, what stands is what is allowed, and the write
-- stores the data at its place and changes no other block
pub record IsHarden (s : Scene) (c : ℕ) (b : Lba) (bytes : List ℕ) : Type 0 where
  pub size : s.map.size ≡ s.size
  pub below : b.0 < capacity s
  pub newest : newest (s.hist.blocks b.0) ≡ Some (Data bytes)
  pub own_sector : (q : Lba) → q.0 < capacity s → place_of s.map q ≡ place_of s.map b → q ≡ b
  pub free : holder_besides s (Work c) b.0 ≡ None
  pub stood : IsStood s.map s.ops s.hist.blocks
  pub may_be : MayBeRecovered s.map.size s.ops s.map
  pub stores : StoresAt s.map (s.ops ++ Wrote (placed s.map b bytes) ∷ []) b (Data bytes)
  pub keeps : KeepsOthers s.map s.ops (s.ops ++ Wrote (placed s.map b bytes) ∷ []) b

-- the blocks after it
abbrev pub hardened_blocks : Scene → Lba → Blocks
hardened_blocks s b = put_at b.0 (after_harden (s.hist.blocks b.0)) s.hist.blocks

-- the history after a put
abbrev pub put_state : Scene → ℕ → Lba → List ℕ → State
put_state s c b bytes = entry_after (capacity s) (Work c) (begun s.hist (Work c)) (Put c b bytes)

-- and after a put and a harden
abbrev pub through_state : Scene → ℕ → Lba → List ℕ → State
through_state s c b bytes = entry_after (capacity s) (Work c) (put_state s c b bytes) (Harden (Command c) b)

-- a command puts a block of the drive that nobody else holds
pub record IsPut (s : Scene) (c : ℕ) (b : Lba) : Type 0 where
  pub below : b.0 < capacity s
  pub free : holder_besides s (Work c) b.0 ≡ None
  pub stood : IsStood s.map s.ops s.hist.blocks

-- a command puts a block to its place: the block lies on a sector of its own, and the write stores the data there and changes no
-- other block
pub record IsPutThrough (s : Scene) (c : ℕ) (b : Lba) (bytes : List ℕ) : Type 0 where
  pub size : s.map.size ≡ s.size
  pub put : IsPut s c b
  pub own_sector : (q : Lba) → q.0 < capacity s → place_of s.map q ≡ place_of s.map b → q ≡ b
  pub may_be : MayBeRecovered s.map.size s.ops s.map
  pub stores : StoresAt s.map (s.ops ++ Wrote (placed s.map b bytes) ∷ []) b (Data bytes)
  pub keeps : KeepsOthers s.map s.ops (s.ops ++ Wrote (placed s.map b bytes) ∷ []) b

-- the history after a pass
abbrev pub passed_state : Scene → ℕ → Lba → Lba → State
passed_state s c from to = entry_after (capacity s) (Work c) (begun s.hist (Work c)) (Passed c from to)

-- operations of a turn about a block that write nothing
pub record AreQuietAt (s : Scene) (b : Lba) (ops : List Op) : Type 0 where
  pub step : is_one_step (length s.ops) ops ≡ true
  pub written : (entries : List Entry) → All (WritesBlockData s.map entries) ops
  pub about : (q : Lba) → q.0 < capacity s → list_any (is_at_sector (place_of s.map q)) ops ≡ true → q.0 ≡ b.0
  pub keeps : KeepsBlocks s.map s.ops (s.ops ++ ops)

-- the history after a get
abbrev pub got_state : Scene → ℕ → Lba → Value → State
got_state s c b v = entry_after (capacity s) (Work c) (begun s.hist (Work c)) (Get c b v)

-- the turn in which the drive destages a block of which these are the newest data
abbrev pub destage_of : Scene → Lba → List ℕ → Beat
destage_of s b bytes = beat Destage (Harden Drive b ∷ []) (Wrote (placed s.map b bytes) ∷ [])

-- the drive may destage a block of which these are the newest data: it is the next one, the power is on and what is stored stands, and
-- the write stores the data at the block's place, changes no other block and leaves the map there
pub record MayDestage (s : Scene) (b : Lba) (bytes : List ℕ) : Type 0 where
  pub size : s.map.size ≡ s.size
  pub below : b.0 < capacity s
  pub is_next : destaged s ≡ Some b.0
  pub newest : newest (s.hist.blocks b.0) ≡ Some (Data bytes)
  pub own_sector : (q : Lba) → q.0 < capacity s → place_of s.map q ≡ place_of s.map b → q ≡ b
  pub standing : IsStanding s
  pub windows : (q : ℕ) → length (s.windows q) ≤ window_at_most
  pub stores : StoresAt s.map (s.ops ++ Wrote (placed s.map b bytes) ∷ []) b (Data bytes)
  pub keeps : KeepsOthers s.map s.ops (s.ops ++ Wrote (placed s.map b bytes) ∷ []) b
  pub present : IsPresentMap s.map (s.ops ++ Wrote (placed s.map b bytes) ∷ [])

-- after it the block alone isn't dirty any more, commands stand as before, and no block became stuck
pub record IsAfterDestage (s t : Scene) (b : Lba) : Type 0 where
  pub size : t.size ≡ s.size
  pub map : t.map ≡ s.map
  pub hist : t.hist ≡ record s.hist { blocks = hardened_blocks s b; dirty = without_address b.0 s.hist.dirty }
  pub windows : t.windows ≡ s.windows
  pub settings : t.settings ≡ s.settings
  pub recovered : t.recovered ≡ s.recovered
  pub stuck : t.back.stuck ≡ s.back.stuck
