-- What each kind of turn comes to: a turn that is about no block is good; a turn of work is, in halves, and this is the history then.
-- And what a factory leaves.
use Rattle.std.specs.Prelude.{◌≡◌, ℕ, ◌≤◌, ◌<◌, ◌==◌, ◌||◌, not, true, false, List, [], ◌∷◌, ◌++◌, length, fold, Some, None}
use Rattle.disk_base.specs.declared.address.Lba.{Lba}
use Rattle.disk_base.specs.declared.address.Psn.{Psn}
use Rattle.disk_base.specs.declared.block.Value.{Value}
use Rattle.disk_base.specs.declared.block.Value.TheVariants.{Data}
use Rattle.sense_data.specs.declared.reply.Reply.{Reply}
use Rattle.task_set.specs.declared.member.Member.{Member}
use Rattle.task_set.specs.Members.{member_of}
use Rattle.platter_model.specs.declared.op.Op.{Op}
use Rattle.platter_model.specs.declared.op.Op.TheVariants.{Wrote, Damaged}
use Rattle.platter_model.specs.declared.damage.Damage.{Damage}
use Rattle.platter_model.specs.declared.world.World.TheVariants as world
use Rattle.platter_model.specs.Sector.{is_faulty}
use Rattle.platter_model.specs.TrueLog.{is_off, strays}
use Rattle.geometry_map.specs.DefectMap.{factory_map}
use Rattle.sector_store.specs.State.{placed}
use Rattle.sector_store.specs.Stored.{stored, KeepsBlocks}
use Rattle.cdb_reader.specs.declared.plan.Plan.{Plan}
use Rattle.cdb_reader.specs.declared.plan.Deed.TheVariants as deed
use Rattle.cdb_reader.specs.Plan.{next}
use Rattle.block_machine.specs.declared.entry.Entry.{Entry}
use Rattle.block_machine.specs.declared.entry.Entry.TheVariants.{Get, Put, Harden, Passed, Ended}
use Rattle.block_machine.specs.declared.entry.Who.TheVariants.{Command}
use Rattle.block_machine.specs.declared.turn.Label.{Label}
use Rattle.block_machine.specs.declared.turn.Label.TheVariants.{Work, Destage, World}
use Rattle.block_machine.specs.Blocks.{blocks_at_start, is_dirty, none_dirty, may_get}
use Rattle.block_machine.specs.Deeds.{is_crowded, names_dirty}
use Rattle.block_machine.specs.Entries.{ends_as_told}
use Rattle.block_machine.specs.State.{State, owed_by}
use Rattle.block_machine.specs.Steps.{begun, entry_after}
use Rattle.block_machine.specs.Turns.{owes_nothing_now}
use Rattle.drive_scene.specs.declared.made.Made.{Made}
use Rattle.drive_scene.specs.Scene.{Scene, Beat, capacity, beat, factory_ops}
use Rattle.drive_scene.specs.After.{scene_after}
use Rattle.drive_scene.specs.Evidence.{IsGot, IsEndShown}
use Rattle.drive_scene.specs.Holds.{holder_besides}
use Rattle.drive_scene.specs.Present.{IsPresentMap}
use Rattle.drive_scene.specs.GoodTurn.{GoodTurn, IsStood, AreTriesShown}
use Rattle.drive_scene.specs.Half.{Half, IsReady}
use Rattle.drive_scene.specs.Kinds.{destage_of, MayDestage, IsAfterDestage, IsHarden, IsPut, IsPutThrough, AreQuietAt, got_state, put_state, through_state, passed_state}
use Rattle.drive_scene.specs.Still.{IsStill, IsStanding}

-- a turn without operations that is about no block is good: an arrival, a function, a start, minutes
abbrev pub StillTurnsAreGood : Type 0
StillTurnsAreGood = (s : Scene) (label : Label) (entries : List Entry) → IsStanding s → IsStill s label entries → GoodTurn s (beat label entries [])

-- damage comes, and leaves the map and what is stored as they were
abbrev pub DamageTurnsAreGood : Type 0
DamageTurnsAreGood = (s : Scene) (x : Damage) → IsStanding s → ((q : ℕ) → length (s.windows q) ≤ 50) → KeepsBlocks s.map s.ops (s.ops ++ Damaged x ∷ [])
    → IsPresentMap s.map (s.ops ++ Damaged x ∷ []) → GoodTurn s (beat (World (world.Damage x)) [] (Damaged x ∷ []))

-- half a turn with which the command goes on is a good turn, where it then owes work on blocks and something was done
abbrev pub HalvesGoOn : Type 0
HalvesGoOn = (s : Scene) (c : ℕ) (ops : List Op) (entries : List Entry) (h : State) (plan : Plan) → IsReady s c → IsPresentMap s.map (s.ops ++ ops)
    → Half s c ops entries h plan → AreTriesShown s (Work c) entries ops → owes_nothing_now (Some plan) ≡ true → (not (length ops == 0) || not (length entries == 0)) ≡ true
    → GoodTurn s (beat (Work c) entries ops)

-- and so it is with the command's end, where the end fulfils what it owes and is shown
abbrev pub HalvesEnd : Type 0
HalvesEnd = (s : Scene) (c : ℕ) (ops : List Op) (entries : List Entry) (h : State) (plan later : Plan) (reply : Reply) → IsReady s c
    → IsPresentMap s.map (s.ops ++ ops) → Half s c ops entries h plan → AreTriesShown s (Work c) (entries ++ Ended c reply ∷ []) ops → next plan (deed.Ended reply (names_dirty h reply)) ≡ Some later
    → ends_as_told (Some plan) (h.duties c) reply ≡ true → IsEndShown s (beat (Work c) (entries ++ Ended c reply ∷ []) ops) c (Some plan) reply
    → GoodTurn s (beat (Work c) (entries ++ Ended c reply ∷ []) ops)

-- half a turn is a turn, where its command goes on and where it ends
pub record HalvesAreGood : Type 0 where
  pub on : HalvesGoOn
  pub over : HalvesEnd

-- a command tries a block and doesn't get it
abbrev pub TriesAreHalves : Type 0
TriesAreHalves = (s : Scene) (c : ℕ) (m : Member) (plan : Plan) (b : Lba) (ops : List Op) → member_of s.hist.set c ≡ Some m
    → (s.hist.duties c).owes ≡ Some plan → IsPresentMap s.map s.ops → IsStood s.map s.ops s.hist.blocks → holder_besides s (Work c) b.0 ≡ None
    → AreQuietAt s b ops → Half s c ops [] (begun s.hist (Work c)) plan

-- a command gets a block
abbrev pub GetsAreHalves : Type 0
GetsAreHalves = (s : Scene) (c : ℕ) (m : Member) (plan later : Plan) (b : Lba) (v : Value) (ops : List Op) → member_of s.hist.set c ≡ Some m
    → (s.hist.duties c).owes ≡ Some plan → b.0 < capacity s → IsPresentMap s.map s.ops → IsStood s.map s.ops s.hist.blocks
    → holder_besides s (Work c) b.0 ≡ None → AreQuietAt s b ops
    → next plan (deed.Got b v (is_dirty (s.hist.blocks b.0))) ≡ Some later
    → (strays (s.ops ++ ops) ≡ 0 → may_get (s.hist.blocks b.0) v ≡ true)
    → (strays (s.ops ++ ops) ≡ 0 → (bytes : List ℕ) → v ≡ Data bytes → is_dirty (s.hist.blocks b.0) ≡ false → v ≡ stored s.map s.ops b)
    → IsGot s (s.windows c ++ ops) (s.settings c) (begun s.hist (Work c)) c b v
    → Half s c ops (Get c b v ∷ []) (got_state s c b v) later

-- a command puts a block into the cache
abbrev pub PutsAreHalves : Type 0
PutsAreHalves = (s : Scene) (c : ℕ) (b : Lba) (bytes : List ℕ) (plan then_plan : Plan) → IsPut s c b → owed_by s.hist c ≡ Some plan
    → next plan (deed.Put b bytes (is_crowded (begun s.hist (Work c)) c b.0)) ≡ Some then_plan
    → Half s c [] (Put c b bytes ∷ []) (put_state s c b bytes) then_plan

-- a command puts a block to its place
abbrev pub PutsThroughAreHalves : Type 0
PutsThroughAreHalves = (s : Scene) (c : ℕ) (b : Lba) (bytes : List ℕ) (plan put_plan then_plan : Plan) → IsPutThrough s c b bytes
    → owed_by s.hist c ≡ Some plan → next plan (deed.Put b bytes (is_crowded (begun s.hist (Work c)) c b.0)) ≡ Some put_plan
    → next put_plan (deed.Hardened b) ≡ Some then_plan
    → Half s c (Wrote (placed s.map b bytes) ∷ []) (Put c b bytes ∷ Harden (Command c) b ∷ []) (through_state s c b bytes) then_plan

-- a command hardens a dirty block
abbrev pub HardensAreHalves : Type 0
HardensAreHalves = (s : Scene) (c : ℕ) (b : Lba) (bytes : List ℕ) (plan then_plan : Plan) → IsHarden s c b bytes → owed_by s.hist c ≡ Some plan
    → next plan (deed.Hardened b) ≡ Some then_plan
    → Half s c (Wrote (placed s.map b bytes) ∷ []) (Harden (Command c) b ∷ [])
    (entry_after (capacity s) (Work c) (begun s.hist (Work c)) (Harden (Command c) b)) then_plan

-- a sync passes over the clean blocks before a dirty one and hardens that
abbrev pub PassesToHardenAreHalves : Type 0
PassesToHardenAreHalves = (s : Scene) (c : ℕ) (from b : Lba) (bytes : List ℕ) (plan passed then_plan : Plan) → IsHarden s c b bytes
    → owed_by s.hist c ≡ Some plan → next plan (deed.Passed from b) ≡ Some passed → next passed (deed.Hardened b) ≡ Some then_plan
    → none_dirty s.hist.blocks from.0 b.0 ≡ true
    → Half s c (Wrote (placed s.map b bytes) ∷ []) (Passed c from b ∷ Harden (Command c) b ∷ [])
    (entry_after (capacity s) (Work c) (passed_state s c from b) (Harden (Command c) b)) then_plan

-- a sync passes over the rest of its range
abbrev pub PassesAreHalves : Type 0
PassesAreHalves = (s : Scene) (c : ℕ) (from to : Lba) (plan then_plan : Plan) → IsStood s.map s.ops s.hist.blocks → owed_by s.hist c ≡ Some plan
    → next plan (deed.Passed from to) ≡ Some then_plan → to.0 ≤ capacity s → none_dirty s.hist.blocks from.0 to.0 ≡ true
    → Half s c [] (Passed c from to ∷ []) (passed_state s c from to) then_plan

-- the drive destages a block
abbrev pub DestagesAreGood : Type 0
DestagesAreGood = (s : Scene) (b : Lba) (bytes : List ℕ) → MayDestage s b bytes
    → GoodTurn s (destage_of s b bytes) × IsAfterDestage s (scene_after s (destage_of s b bytes)) b

-- and leaves commands as they were, so what is left to do for them, too
abbrev pub DestagesLeaveCommands : Type 0
DestagesLeaveCommands = (s : Scene) (t : Beat) → t.label ≡ Destage → GoodTurn s t → (b : Lba) × IsAfterDestage s (scene_after s t) b

-- turns leave the measures as they were; and where no move is in flight, the map too, and none comes to be, since nothing opens one yet
abbrev pub MapsStay : Type 0
MapsStay = (s : Scene) (turns : List Beat)
    → (s.back.flights ≡ [] → ((fold scene_after s turns).map ≡ s.map) × ((fold scene_after s turns).back.flights ≡ []))
    × ((fold scene_after s turns).size ≡ s.size)

-- on a platter from the factory the power is on, no sector has a write fault, and the zeros of each block stand
pub record IsFromFactory (made : Made) : Type 0 where
  pub powered : is_off (factory_ops made) ≡ false
  pub sound : (p : Psn) → is_faulty p (factory_ops made) ≡ false
  pub stands : IsStood (factory_map made.size made.primary) (factory_ops made) blocks_at_start

-- so it is where the factory's map is there
abbrev pub FactoriesLeaveZeros : Type 0
FactoriesLeaveZeros = (made : Made) → IsPresentMap (factory_map made.size made.primary) (factory_ops made) → IsFromFactory made
