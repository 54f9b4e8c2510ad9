-- What the operations of a turn, and those before it, show of its entries.
use Rattle.std.specs.Prelude.{◌≡◌, ◌⊎◌, ℕ, zero, suc, ◌<◌, ◌&&◌, Bool, true, false, not, List, [], ◌++◌, length, Contains, slice_get, Option, Some, None, Result, Ok}
use Rattle.disk_base.specs.declared.address.Lba.{Lba}
use Rattle.disk_base.specs.declared.address.Psn.{Psn}
use Rattle.disk_base.specs.declared.block.Value.{Value}
use Rattle.disk_base.specs.declared.block.Value.TheVariants.{Data, Lost}
use Rattle.disk_base.specs.declared.payload.Payload.{Payload}
use Rattle.disk_base.specs.declared.stage.Stage.{Stage}
use Rattle.disk_base.specs.Payload.{value_for}
use Rattle.sense_data.specs.declared.reply.Reply.{Reply}
use Rattle.sense_data.specs.declared.sense.Sense.{Sense}
use Rattle.mode_pages.specs.declared.settings.Settings.{Settings}
use Rattle.read_recovery.specs.Stages.{stages_of}
use Rattle.platter_model.specs.declared.op.Op.{Op}
use Rattle.platter_model.specs.declared.op.Op.TheVariants.{Tried, WriteFailed}
use Rattle.geometry_map.specs.DefectMap.{DefectMap, place_of}
use Rattle.sector_store.specs.Shapes.{try_of}
use Rattle.sector_store.specs.Tries.{WritesBlock}
use Rattle.defect_lists.specs.DefectData.{defect_data}
use Rattle.cdb_reader.specs.Request.{Request, ReadDefectData}
use Rattle.cdb_reader.specs.declared.plan.Reading as reading
use Rattle.cdb_reader.specs.declared.plan.Plan.{Plan}
use Rattle.cdb_reader.specs.declared.plan.Plan.TheVariants.{Reading, Writing, Syncing, Moving}
use Rattle.cdb_reader.specs.Replies.{medium_error}
use Rattle.move_jobs.specs.Job as move_job
use Rattle.move_jobs.specs.declared.step.JobStep.TheVariants.{Committing}
use Rattle.command_engine.specs.Ending.{report_of}
use Rattle.block_machine.specs.declared.entry.Entry.{Entry}
use Rattle.block_machine.specs.declared.entry.Entry.TheVariants.{Get, Put, Harden, GiveUp, Page, Ended, Scanned, Logged, Cut, PoweredOn, Blank, Fresh}
use Rattle.block_machine.specs.declared.turn.Label.{Label}
use Rattle.block_machine.specs.declared.turn.Label.TheVariants.{Job}
use Rattle.block_machine.specs.Blocks.{is_dirty, newest}
use Rattle.block_machine.specs.State.{State, owed_by}
use Rattle.drive_scene.specs.Scene.{Scene, Beat}
use Rattle.move_table.specs.Table.{job_in}
use Rattle.drive_scene.specs.After.{windows_with, scene_after}

-- the address of a block
abbrev pub lba : ℕ → Lba
lba b = record { 0 = b }

-- the window of a command, with the operations of this turn
abbrev pub window_now : Scene → Beat → ℕ → List Op
window_now s t c = windows_with t.label s.windows t.ops c

-- the window of a command behind the turn's entries: none of the turn's operations where it got, put or hardened a block, or started
abbrev pub window_behind : Scene → Beat → ℕ → List Op
window_behind s t c = (scene_after s t).windows c

-- the mode values with which a command started, be it in this turn
abbrev pub settings_now : Scene → Beat → ℕ → Settings
settings_now s t c = (scene_after s t).settings c

-- a window is, as a list, the fetch and the try of each of the first stages of a retry count at a sector, which found nothing
abbrev pub FailedBelow : List Op → Psn → ℕ → ℕ → Type 0
FailedBelow window p retry zero = window ≡ []
FailedBelow window p retry (suc n) = (earlier : List Op) × (before : ℕ) × (stage : Stage) × (slice_get (stages_of retry) n ≡ Some stage)
    × FailedBelow earlier p retry n × (window ≡ earlier ++ try_of before p stage None)

-- and then the try of one stage more, which found a value of a block
abbrev pub FoundByStages : List Op → Psn → ℕ → Lba → Value → Type 0
FoundByStages window p retry b v = (n : ℕ) × (earlier : List Op) × (before : ℕ) × (stage : Stage) × (payload : Payload)
    × (slice_get (stages_of retry) n ≡ Some stage) × FailedBelow earlier p retry n
    × (window ≡ earlier ++ try_of before p stage (Some payload)) × (value_for b payload ≡ v)

-- all stages found nothing there, or one found that the block is lost
abbrev pub FoundNowhere : List Op → Psn → ℕ → Lba → Type 0
FoundNowhere window p retry b = FailedBelow window p retry (length (stages_of retry)) ⊎ FoundByStages window p retry b Lost

-- a value of a block is known since the power came on: it was put, or a try found it
abbrev pub IsKnown : List Entry → List Op → Lba → Value → Type 0
IsKnown entries since b v =
    ((c : ℕ) × (bytes : List ℕ) × Contains entries (Put c b bytes) × (v ≡ Data bytes))
    ⊎ ((at : ℕ) × (p : Psn) × (stage : Stage) × (payload : Payload) × Contains since (Tried at p stage (Some payload)) × (value_for b payload ≡ v))

-- a clean value may be given from the cache: by a read without FUA, while RCD is 0 (SBC-3, caching mode page)
abbrev pub may_use_cache : Settings → Option Plan → Bool
may_use_cache settings (Some (Reading r)) = not r.through && not settings.rcd
may_use_cache settings plan = false

-- a command tried a block by all of its stages, and each found nothing
abbrev pub IsGivenUpBy : Scene → Lba → ℕ → Type 0
IsGivenUpBy s b c = FailedBelow (s.windows c) (place_of s.map b) (s.settings c).retry (length (stages_of (s.settings c).retry))

-- a block is given up as a move is committed whose owner gave it up
abbrev pub IsGiveUpShown : Scene → Label → Lba → Type 0
IsGiveUpShown s (Job j) b = (job : move_job.Job) × (c : ℕ) × (job_in s.back.flights j ≡ Some job) × (job.b ≡ b) × (job.owner ≡ Some c) × IsGivenUpBy s b c
IsGiveUpShown s label b = ⊥

-- a block is hardened by a move that needs its commit and carries the newest value to its spare; else by a write of that to its place
abbrev pub IsHardenShown : Scene → Beat → Label → State → Lba → Type 0
IsHardenShown s t (Job j) h b =
    (job : move_job.Job) × (job_in s.back.flights j ≡ Some job) × (job.step ≡ Committing) × (job.b ≡ b) × (newest (h.blocks b.0) ≡ Some job.value)
IsHardenShown s t label h b = (v : Value) → newest (h.blocks b.0) ≡ Some v → WritesBlock s.map b v t.ops

-- what a move finds is logged by the rule of its turn
abbrev pub IsLogShown : Label → Type 0
IsLogShown (Job j) = Unit {0}
IsLogShown label = ⊥

-- a command gets a value of a block that isn't dirty
abbrev pub IsGotShown : Scene → List Op → Settings → State → ℕ → Lba → Value → Type 0
IsGotShown s window settings h c b (Data bytes) =
    FoundByStages window (place_of s.map b) settings.retry b (Data bytes)
    ⊎ ((window ≡ []) × (may_use_cache settings (owed_by h c) ≡ true) × IsKnown s.entries s.since b (Data bytes))
IsGotShown s window settings h c b Lost = FoundNowhere window (place_of s.map b) settings.retry b

-- the newest value of a dirty block comes from the cache alone
abbrev pub IsGot : Scene → List Op → Settings → State → ℕ → Lba → Value → Type 0
IsGot s window settings h c b v = (is_dirty (h.blocks b.0) ≡ true → window ≡ [])
    × (is_dirty (h.blocks b.0) ≡ false → IsGotShown s window settings h c b v)

-- a command that needs a block tries it at its next stage, which isn't the last, and finds nothing
abbrev pub IsNextTry : Scene → ℕ → List Op → Type 0
IsNextTry s c ops = (r : reading.Reading) × (n : ℕ) × (owed_by s.hist c ≡ Some (Reading r)) × (r.at < r.end) × (is_dirty (s.hist.blocks r.at) ≡ false)
    × (n < length (stages_of (s.settings c).retry)) × FailedBelow (s.windows c ++ ops) (place_of s.map (lba r.at)) (s.settings c).retry n

-- a command ends with WRITE ERROR at a block: a write of it failed, and AWRE is 0 (SBC-3, read-write error recovery mode page).
-- AUTO REALLOCATION FAILED comes with AWRE 1 and no spare left, and not yet
abbrev pub FailedToWrite : Scene → Beat → ℕ → ℕ → Reply → Type 0
FailedToWrite s t c b reply = (reply ≡ medium_error 0x0C 0x00 b) × Contains (window_behind s t c) (WriteFailed (place_of s.map (lba b)))
    × ((settings_now s t c).awre ≡ false)

-- a command ends while it owes a plan: a read with all its blocks tells the last one that was found past the plain read, where
-- that is to be reported; and one that isn't at its end failed to write. No command that moves blocks comes yet
abbrev pub IsEndShown : Scene → Beat → ℕ → Option Plan → Reply → Type 0
IsEndShown s t c (Some (Reading r)) reply =
    (r.at ≡ r.end → reply ≡ report_of r.reports ((scene_after s t).recovered c)) × (r.at < r.end → FailedToWrite s t c r.at reply)
IsEndShown s t c (Some (Writing w)) reply = w.at < w.end → FailedToWrite s t c w.at reply
IsEndShown s t c (Some (Syncing y)) reply = y.at < y.end → FailedToWrite s t c y.at reply
IsEndShown s t c (Some (Moving m)) reply = ⊥
IsEndShown s t c plan reply = Unit {0}

-- the data of a command whose plan has these: those of READ DEFECT DATA are the defects of the map (SBC-3)
abbrev pub page_of : DefectMap → Result Request Sense → List ℕ → List ℕ
page_of m (Ok (ReadDefectData primary grown format allocation)) planned =
    defect_data m (record { primary = primary; grown = grown; format = format; allocation = allocation })
page_of m asks planned = planned

-- what a turn's operations show of one of its entries, from the state before that entry
abbrev pub Shows : Scene → Beat → State → Entry → Type 0
Shows s t h (Get c b v) = IsGot s (window_now s t c) (settings_now s t c) h c b v
Shows s t h (GiveUp b) = IsGiveUpShown s t.label b
Shows s t h (Harden who b) = IsHardenShown s t t.label h b
Shows s t h (Page c bytes) = bytes ≡ page_of s.map (h.duties c).asks bytes
Shows s t h (Ended c reply) = IsEndShown s t c (owed_by h c) reply
Shows s t h (Logged finding) = IsLogShown t.label
-- no scan, cut or format comes yet
Shows s t h (Scanned b what) = ⊥
Shows s t h Cut = ⊥
Shows s t h (PoweredOn outcome) = ⊥
Shows s t h (Blank c) = ⊥
Shows s t h (Fresh c) = ⊥
Shows s t h other = Unit {0}
