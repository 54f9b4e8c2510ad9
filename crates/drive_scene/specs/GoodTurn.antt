-- What is said of one turn.
use Rattle.std.specs.Prelude.{◌≡◌, ℕ, ◌<◌, ◌≤◌, ◌==◌, ◌&&◌, ◌||◌, not, nat_lt, Bool, true, false, IsTrue, if◌then◌else◌, List, [], ◌∷◌, ◌++◌, length, Option, Some, None, All}
use Rattle.std.specs.List.{list_any, list_all}
use Rattle.std.specs.Ordering.{int_eq}
use Rattle.std.specs.Option.{option_map_or}
use Rattle.disk_base.specs.Along.{Along, all_along}
use Rattle.disk_base.specs.declared.address.Lba.{Lba}
use Rattle.disk_base.specs.declared.address.Psn.{Psn}
use Rattle.disk_base.specs.declared.block.Value.{Value}
use Rattle.disk_base.specs.declared.block.Value.TheVariants.{Data}
use Rattle.disk_base.specs.declared.payload.Payload.{Payload}
use Rattle.platter_model.specs.declared.op.Op.{Op}
use Rattle.platter_model.specs.declared.op.Op.TheVariants as op
use Rattle.platter_model.specs.declared.world.World.{World}
use Rattle.platter_model.specs.declared.world.World.TheVariants as world
use Rattle.disk_base.specs.declared.stage.Stage.{Stage}
use Rattle.platter_model.specs.declared.damage.Attempt.{Attempt}
use Rattle.platter_model.specs.TrueLog.{is_off, strays}
use Rattle.geometry_map.specs.DefectMap.{DefectMap, place_of}
use Rattle.geometry_map.specs.Size.{capacity_of}
use Rattle.sector_store.specs.State.{placed}
use Rattle.sector_store.specs.Stored.{Stands}
use Rattle.sector_store.specs.Maps.{MayBeRecovered, meant_on}
use Rattle.map_generations.specs.SafeMaps.{IsPresent}
use Rattle.block_machine.specs.declared.entry.Entry.{Entry}
use Rattle.block_machine.specs.declared.entry.Entry.TheVariants.{Get, Put, Harden, GiveUp}
use Rattle.block_machine.specs.declared.entry.Entry.TheVariants as entry
use Rattle.block_machine.specs.declared.entry.Who.TheVariants as who
use Rattle.block_machine.specs.declared.turn.Label.{Label}
use Rattle.block_machine.specs.declared.turn.Label.TheVariants.{Arrive, Work}
use Rattle.block_machine.specs.declared.turn.Label.TheVariants as label
use Rattle.block_machine.specs.Blocks.{Blocks, allowed, same_value, newest}
use Rattle.block_machine.specs.Steps.{begun, entry_after}
use Rattle.block_machine.specs.Turns.{entries_lawful, blocks_lawful}
use Rattle.move_table.specs.Table.{is_awaited}
use Rattle.drive_scene.specs.Scene.{Scene, Beat, capacity}
use Rattle.drive_scene.specs.After.{committed_by, scene_after}
use Rattle.drive_scene.specs.MoveTurn.{IsMoveTurn, is_cut_off}
use Rattle.drive_scene.specs.Evidence.{Shows, IsNextTry}
use Rattle.drive_scene.specs.Holds.{holder_besides, destaged}

-- while no operation is a stray, each map that recovery may take has for each block a value that the history allows it
abbrev pub IsAllowed : Blocks → Lba → Value → Type 0
IsAllowed blocks b v = IsTrue (list_any (same_value v) (allowed (blocks b.0)))

abbrev pub IsStood : DefectMap → List Op → Blocks → Type 0
IsStood m ops blocks = strays ops ≡ 0 → Stands (IsAllowed blocks) m ops

-- the blocks that entries change or get
abbrev pub block_of : Entry → Option Lba
block_of (Get c b v) = Some b
block_of (Put c b v) = Some b
block_of (Harden who b) = Some b
block_of (GiveUp b) = Some b
block_of other = None

abbrev pub is_on : Lba → Entry → Bool
is_on b e = option_map_or (λ q. q.0 == b.0) (block_of e) false

-- all entries on blocks are on this one
abbrev pub are_on : Lba → List Entry → Bool
are_on b entries = list_all (λ e. option_map_or (λ q. q.0 == b.0) (block_of e) true) entries

-- entries are on one block at most
abbrev pub IsOnOneBlock : List Entry → Type 0
IsOnOneBlock entries = (b : Lba) × IsTrue (are_on b entries)

-- the sector of an operation that reads or writes one
abbrev pub sector_tried : Op → Option Psn
sector_tried (op.Wrote payload) = Some payload.psn
sector_tried (op.Torn payload tear) = Some payload.psn
sector_tried (op.WriteFailed p) = Some p
sector_tried (op.Fetched p attempt) = Some p
sector_tried (op.Tried at p stage found) = Some p
sector_tried other = None

abbrev pub is_at_sector : Psn → Op → Bool
is_at_sector p o = option_map_or (λ q. q.0 == p.0) (sector_tried o) false

-- a sector is fetched as a stage reads it
abbrev pub is_attempt_of : Attempt → Stage → Bool
is_attempt_of attempt stage = attempt.reread == stage.reread && int_eq attempt.offset stage.offset

-- after so many operations at most one fetch with its own try, or one write
abbrev pub is_one_step : ℕ → List Op → Bool
is_one_step before [] = true
is_one_step before (op.Fetched p attempt ∷ op.Tried at q stage found ∷ []) = p.0 == q.0 && at == before && is_attempt_of attempt stage
is_one_step before (op.Wrote payload ∷ []) = true
is_one_step before (op.WriteFailed p ∷ []) = true
is_one_step before other = false

-- the operations and entries of what happens from outside, while the power is off or on; minutes are counted while it is on, and
-- no power cut comes yet, armed or not
abbrev pub IsWorldStep : Bool → World → List Entry → List Op → Type 0
IsWorldStep off (world.Damage d) entries ops = (entries ≡ []) × (ops ≡ op.Damaged d ∷ [])
IsWorldStep off (world.Fault p) entries ops = (entries ≡ []) × (ops ≡ op.Faulty p ∷ [])
IsWorldStep off (world.Minutes n) entries ops = (entries ≡ (if off then [] else entry.Tick n ∷ [])) × (ops ≡ [])
IsWorldStep off (world.Arm k tear) entries ops = ⊥
IsWorldStep off world.Cut entries ops = ⊥
IsWorldStep off world.Power entries ops = ⊥

-- a destage writes the newest data of the oldest dirty block that nobody holds to the block's place, and tells that the drive hardened it.
-- A write that failed or was torn comes later
pub record IsDestageTurn (s : Scene) (entries : List Entry) (ops : List Op) : Type 0 where
  pub b : Lba
  pub bytes : List ℕ
  pub is_next : destaged s ≡ Some b.0
  pub newest : newest (s.hist.blocks b.0) ≡ Some (Data bytes)
  pub told : entries ≡ Harden who.Drive b ∷ []
  pub wrote : ops ≡ op.Wrote (placed s.map b bytes) ∷ []

-- a turn's operations are those of one step, and it isn't empty. A turn of a move in which the power goes doesn't come yet, and no scan
abbrev pub IsStep : Scene → Label → List Entry → List Op → Type 0
IsStep s (Arrive i) entries ops = ops ≡ []
IsStep s (label.World w) entries ops = IsWorldStep (is_off s.ops) w entries ops
IsStep s (Work c) entries ops = IsTrue (is_one_step (length s.ops) ops) × IsTrue (not (length ops == 0) || not (length entries == 0))
IsStep s (label.Job j) entries ops = IsMoveTurn s j entries ops × (is_cut_off ops ≡ false)
IsStep s label.Scan entries ops = ⊥
IsStep s label.Destage entries ops = IsDestageTurn s entries ops

-- a turn begins with the power on, but for what happens from outside
abbrev pub IsPowered : Scene → Label → Type 0
IsPowered s (label.World w) = Unit {0}
IsPowered s own = is_off s.ops ≡ false

abbrev pub is_try : Op → Bool
is_try (op.Tried at p stage found) = true
is_try other = false

abbrev pub is_get : Entry → Bool
is_get (Get c b v) = true
is_get other = false

-- a turn of work in which a block is tried gets it, or has no entry: then it is the next try of what its command needs
abbrev pub AreTriesShown : Scene → Label → List Entry → List Op → Type 0
AreTriesShown s (Work c) [] ops = IsNextTry s c ops
AreTriesShown s (Work c) entries ops = IsTrue (not (list_any is_try ops) || list_any is_get entries)
AreTriesShown s label entries ops = Unit {0}

-- nobody else holds a block when a turn of the drive's own begins: nothing that comes from outside is about a block
abbrev pub IsFree : Scene → Label → Lba → Type 0
IsFree s (Arrive i) b = Unit {0}
IsFree s (label.World w) b = Unit {0}
IsFree s (Work c) b = holder_besides s (Work c) b.0 ≡ None
IsFree s label.Destage b = holder_besides s label.Destage b.0 ≡ None
IsFree s (label.Job j) b = holder_besides s (label.Job j) b.0 ≡ None
IsFree s label.Scan b = ⊥

-- the turn commits a move of a block, so that the block lies elsewhere then
abbrev pub moves_block : Scene → Beat → Lba → Bool
moves_block s t b = option_map_or (λ job. job.b.0 == b.0) (committed_by s t.label t.ops) false

-- the turn has an entry on a block, or an operation at its place, or moves it
abbrev pub is_about : Scene → Beat → Lba → Bool
is_about s t b = moves_block s t b || (list_any (is_on b) t.entries || list_any (is_at_sector (place_of s.map b)) t.ops)

-- an entry is a command's: it starts, gets, puts or hardens, passes over blocks, gives data, ends or changes mode values
abbrev pub is_entry_of : ℕ → Entry → Bool
is_entry_of c (entry.Started d) = d == c
is_entry_of c (Get d b v) = d == c
is_entry_of c (Put d b v) = d == c
is_entry_of c (Harden (who.Command d) b) = d == c
is_entry_of c (entry.Passed d from to) = d == c
is_entry_of c (entry.Page d bytes) = d == c
is_entry_of c (entry.Ended d reply) = d == c
is_entry_of c (entry.Mode settings) = true
is_entry_of c other = false

-- the place of an entry in its turn
abbrev pub rank : Entry → ℕ
rank (entry.Arrived c i tag a cdb sent) = 1
rank (entry.Asked i what) = 1
rank (entry.Aborted c) = 2
rank (entry.Started c) = 3
rank (entry.Passed c from to) = 4
rank (Get c b v) = 5
rank (Put c b v) = 5
rank (GiveUp b) = 5
rank (entry.Blank c) = 5
rank (entry.Fresh c) = 5
rank (Harden who b) = 6
rank (entry.Scanned b what) = 7
rank (entry.Logged finding) = 8
rank (entry.Page c bytes) = 9
rank (entry.Mode settings) = 9
rank (entry.Ended c reply) = 10
rank entry.Cut = 11
rank (entry.PoweredOn outcome) = 12
rank (entry.Tick n) = 13

-- an entry may stand behind one of a rank: it has a higher one, or both end commands that were aborted
abbrev pub may_follow : ℕ → Entry → Bool
may_follow before e = nat_lt before (rank e) || (before == 2 && rank e == 2)

-- the entries of a turn are in their order
abbrev pub are_in_order : List Entry → Bool
are_in_order entries = all_along (λ before e. rank e) may_follow 0 entries

-- while the power is on and the map isn't corrupt, the scene's map stands whole in its slot, with an older one in the other, and
-- recovery may take it
abbrev pub IsMapped : Scene → Type 0
IsMapped s = is_off s.ops ≡ false → s.hist.corrupt ≡ false → IsPresent (meant_on s.ops) s.map × MayBeRecovered s.map.size s.ops s.map

-- a turn of work has entries of its command alone; those of a move and of a destage are told by its step
abbrev pub AreOwn : Label → List Entry → Type 0
AreOwn (Work c) entries = IsTrue (list_all (is_entry_of c) entries)
AreOwn (Arrive i) entries = Unit {0}
AreOwn (label.World w) entries = Unit {0}
AreOwn label.Destage entries = Unit {0}
AreOwn (label.Job j) entries = Unit {0}
AreOwn label.Scan entries = ⊥

-- a turn of work is of a command that opened a move which is in flight
abbrev pub waits_for_move : Scene → Label → Bool
waits_for_move s (Work c) = is_awaited s.back.flights c
waits_for_move s label = false

-- a payload is the data of one of the map's blocks, for its place
abbrev pub IsBlockData : DefectMap → Payload → Type 0
IsBlockData m payload = (b : Lba) × (bytes : List ℕ) × (b.0 < capacity_of m.size) × (payload ≡ placed m b bytes)

abbrev pub is_harden_of : Lba → Entry → Bool
is_harden_of b (Harden who q) = q.0 == b.0
is_harden_of b other = false

-- an operation that writes a sector writes a block's own data to its place, beside the entry that hardens the block; none is torn yet
abbrev pub WritesBlockData : DefectMap → List Entry → Op → Type 0
WritesBlockData m entries (op.Wrote payload) = (own : IsBlockData m payload) × IsTrue (list_any (is_harden_of own.0) entries)
WritesBlockData m entries (op.Torn payload tear) = ⊥
WritesBlockData m entries other = Unit {0}

-- nothing but blocks' data is written, each to its place beside its harden; what a move writes is told by its step
abbrev pub WritesBlocks : DefectMap → Label → List Entry → List Op → Type 0
WritesBlocks m (label.Job j) entries ops = Unit {0}
WritesBlocks m label entries ops = All (WritesBlockData m entries) ops

-- two operations for each of the 25 stages that the greatest retry count has
abbrev pub window_at_most : ℕ
window_at_most = 50

pub record GoodTurn (s : Scene) (t : Beat) : Type 0 where
  -- it may come, as far as commands go
  pub tasks : IsTrue (entries_lawful (capacity s) t.label (begun s.hist t.label) t.entries)
  -- and as far as blocks go, while no operation is a stray
  pub blocks : strays (s.ops ++ t.ops) ≡ 0 → IsTrue (blocks_lawful (capacity s) s.hist.blocks t.entries)
  pub shown : Along (entry_after (capacity s) t.label) (Shows s t) (begun s.hist t.label) t.entries
  pub powered : IsPowered s t.label
  pub step : IsStep s t.label t.entries t.ops
  pub tries : AreTriesShown s t.label t.entries t.ops
  pub one_block : IsOnOneBlock t.entries
  pub written : WritesBlocks s.map t.label t.entries t.ops
  pub own : AreOwn t.label t.entries
  -- no command is worked on while a move that it opened is in flight
  pub waits : waits_for_move s t.label ≡ false
  pub order : IsTrue (are_in_order t.entries)
  -- no window is longer than the tries of all stages
  pub window : (c : ℕ) → length ((scene_after s t).windows c) ≤ window_at_most
  -- nobody but the holder is about a block
  pub held : (b : Lba) → b.0 < capacity s → is_about s t b ≡ true → IsFree s t.label b
  -- what is stored after it, by the map then
  pub stands : IsStood (scene_after s t).map (s.ops ++ t.ops) (scene_after s t).hist.blocks
  pub mapped : IsMapped (scene_after s t)
