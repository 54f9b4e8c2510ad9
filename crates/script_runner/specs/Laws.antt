-- What holds of every good run of a script.
use Rattle.std.specs.Prelude.{◌≡◌, ◌⊎◌, ℕ, ◌+◌, false, IsTrue, List, [], ◌∷◌, ◌++◌, map, drop, flat_map, fold, Option, length, Ok}
use Rattle.disk_base.specs.declared.address.Lba.{Lba}
use Rattle.disk_base.specs.declared.block.Value.{Value}
use Rattle.disk_base.specs.declared.block.Value.TheVariants.{Data, Lost}
use Rattle.read_recovery.specs.Stages.{stages_of}
use Rattle.geometry_map.specs.DefectMap.{place_of}
use Rattle.geometry_map.specs.Size.{capacity_of}
use Rattle.platter_model.specs.declared.op.Op.{Op}
use Rattle.platter_model.specs.TrueLog.{strays}
use Rattle.script_text.specs.declared.script.Script.{Script}
use Rattle.sense_data.specs.declared.reply.Reply.{Reply}
use Rattle.cdb_reader.specs.Replies.{same_reply, unrecovered_read}
use Rattle.cdb_reader.specs.Request as request
use Rattle.block_machine.specs.declared.entry.Entry.{Entry}
use Rattle.block_machine.specs.declared.entry.Entry.TheVariants.{Get, Ended}
use Rattle.block_machine.specs.declared.turn.Turn.{Turn}
use Rattle.block_machine.specs.History.{legal, task_legal, state_after, entries_of}
use Rattle.block_machine.specs.Laws.{tally_of}
use Rattle.block_machine.specs.Parts.{Command, arrival, asked}
use Rattle.block_machine.specs.KeptValues.{is_pending, AreDirtyBlocks}
use Rattle.drive_scene.specs.Scene.{Scene, Beat, factory_ops, scene_at_start}
use Rattle.drive_scene.specs.After.{scene_after}
use Rattle.drive_scene.specs.Evidence.{FailedBelow, FoundByStages, FoundNowhere, IsKnown, window_now, settings_now}
use Rattle.drive_scene.specs.Run.{Run, beats_of}
use Rattle.report_text.specs.declared.run.Form.TheVariants.{Whole}
use Rattle.report_text.specs.Operations.{shown_of}
use Rattle.report_text.specs.Summary.{counts_of}
use Rattle.report_text.specs.Report.{report_of}
use Rattle.report_text.specs.Reading.{IsReport, AreCounts}
use Rattle.report_text.specs.Laws.{AreShowable}
use Rattle.script_runner.specs.Run.{IsGood, drive_run}

-- a fact holds of each good run of a script, whole: of its drive, its turns and its operations
abbrev pub OfWholeRuns : (Run → Type 0) → Type 0
OfWholeRuns Fact = (order : Option ℕ) (script : Script) (turns : List Turn) (ops : List Op) (good : IsGood order script turns ops) → Fact (drive_run good.size script turns ops)

-- .. of each without strays: no damage was taken for another payload
abbrev pub OfWholeRunsWithoutStrays : (Run → Type 0) → Type 0
OfWholeRunsWithoutStrays Fact = OfWholeRuns (λ run. strays run.ops ≡ 0 → Fact run)

-- a fact of turns, over a disk of so many blocks, holds of those of each good run
abbrev pub OfGoodRuns : (ℕ → List Turn → Type 0) → Type 0
OfGoodRuns Fact = OfWholeRuns (λ run. Fact (capacity_of run.made.size) run.turns)

-- .. of those of each without strays
abbrev pub OfRunsWithoutStrays : (ℕ → List Turn → Type 0) → Type 0
OfRunsWithoutStrays Fact = OfWholeRunsWithoutStrays (λ run. Fact (capacity_of run.made.size) run.turns)

-- turns are a legal history of an array of blocks
abbrev pub AreLegal : ℕ → List Turn → Type 0
AreLegal blocks turns = IsTrue (legal blocks turns)

-- they are one as far as commands go
abbrev pub AreTaskLegal : ℕ → List Turn → Type 0
AreTaskLegal blocks turns = IsTrue (task_legal blocks turns)

-- up to any of the turns they are a legal history
abbrev pub BeginningsAreLegal : ℕ → List Turn → Type 0
BeginningsAreLegal blocks turns = (first more : List Turn) → turns ≡ first ++ more → AreLegal blocks first

-- each command that came has ended, was aborted or was cut off
abbrev pub NoneIsLeft : ℕ → List Turn → Type 0
NoneIsLeft blocks turns = (tally_of (entries_of turns)).inside ≡ []

-- as many commands came as ended with a reply, were aborted by a function, and were cut off
abbrev pub AllThatCameAreGone : ℕ → List Turn → Type 0
AllThatCameAreGone blocks turns = (tally_of (entries_of turns)).came
    ≡ (tally_of (entries_of turns)).ended + (tally_of (entries_of turns)).aborted + (tally_of (entries_of turns)).cut

-- the dirty blocks after turns are those for which something is pending, and the list of dirty addresses has each of them, once
abbrev pub DirtyBlocksArePending : ℕ → List Turn → Type 0
DirtyBlocksArePending blocks turns = AreDirtyBlocks (state_after blocks turns) (entries_of turns)

-- where an entry stands in a run: in which turn, and what came before and behind it
pub record EntryIn (run : Run) (e : Entry) : Type 0 where
  pub turn : Beat
  pub before : List Beat
  pub behind : List Beat
  pub earlier : List Entry
  pub later : List Entry
  pub among : beats_of run ≡ before ++ turn ∷ behind
  pub within : turn.entries ≡ earlier ++ e ∷ later

-- all entries before it
abbrev pub entries_before : {run : Run} {e : Entry} → EntryIn run e → List Entry
entries_before place = flat_map (λ turn. turn.entries) place.before ++ place.earlier

-- what the drive has come to before its turn
abbrev pub scene_before : {run : Run} {e : Entry} → EntryIn run e → Scene
scene_before {run} place = fold scene_after (scene_at_start run.made) place.before

-- a command came as a READ without FUA, among entries
pub record CameAsReadWithoutFua (capacity c : ℕ) (entries : List Entry) : Type 0 where
  pub command : Command
  pub numbered : command.number ≡ c
  pub before : List Entry
  pub behind : List Entry
  pub whole : entries ≡ before ++ arrival command ∷ behind
  pub from : ℕ
  pub count : ℕ
  pub asks : asked capacity command ≡ Ok (request.Read from count false)

-- at an entry a value of a block is known since the power came on, and may be given from the cache: nothing was tried, and the
-- command is a READ without FUA that started while RCD is 0 (SBC-3, caching mode page)
abbrev pub IsFromCache : {run : Run} {e : Entry} → EntryIn run e → ℕ → Lba → Value → Type 0
IsFromCache {run} place c b v =
    let s = scene_before place in
    (window_now s place.turn c ≡ []) × ((settings_now s place.turn c).rcd ≡ false)
    × CameAsReadWithoutFua (capacity_of run.made.size) c (entries_before place) × IsKnown s.entries s.since b v

-- what the operations show of a value that a command gets at an entry: the stages found it on the medium, or it is from the cache;
-- and of a block that it gets as lost, that each stage failed, or one found that it is lost
abbrev pub IsFoundOrKnown : {run : Run} {e : Entry} → EntryIn run e → ℕ → Lba → Value → Type 0
IsFoundOrKnown place c b (Data bytes) =
    let s = scene_before place in
    FoundByStages (window_now s place.turn c) (place_of s.map b) (settings_now s place.turn c).retry b (Data bytes) ⊎ IsFromCache place c b (Data bytes)
IsFoundOrKnown place c b Lost =
    let s = scene_before place in FoundNowhere (window_now s place.turn c) (place_of s.map b) (settings_now s place.turn c).retry b

-- a law: so it is with each value that a command gets of a block for which nothing is pending
abbrev pub GetsAreShown : Run → Type 0
GetsAreShown run = (c : ℕ) (b : Lba) (v : Value) (get : EntryIn run (Get c b v)) → is_pending b.0 (entries_before get) ≡ false → IsFoundOrKnown get c b v

-- at an entry the tries of all stages of a command's retry count at a block's sector, in their order, are, as a list, the
-- command's window, and each found nothing
abbrev pub EachStageFailed : {run : Run} {e : Entry} → EntryIn run e → ℕ → Lba → Type 0
EachStageFailed place c b =
    let s = scene_before place in let retry = (settings_now s place.turn c).retry in
    FailedBelow (window_now s place.turn c) (place_of s.map b) retry (length (stages_of retry))

-- a law: a block is read as lost only where each stage failed
abbrev pub BadReadsAreShown : Run → Type 0
BadReadsAreShown run = (c : ℕ) (b : Lba) (get : EntryIn run (Get c b Lost)) → EachStageFailed get c b

-- a law: a command ends with UNRECOVERED READ ERROR at a block only where each stage failed there
abbrev pub UnreadEndsAreShown : Run → Type 0
UnreadEndsAreShown run = (c : ℕ) (reply : Reply) (b : Lba) (end : EntryIn run (Ended c reply)) → IsTrue (same_reply reply (unrecovered_read b.0))
    → EachStageFailed end c b

-- a law: the report of a run, printed whole, is the report of the run's own turns, so `read_run` gives these of it, where it has
-- fewer than 2^32 - 1 bytes; if its numbers fit: those of labels, operations and entries the ranges of their types, as they do in
-- memory, and those of the summary 64 bits
abbrev pub ReportsTellTheirRuns : Run → Type 0
ReportsTellTheirRuns run = let before = length (factory_ops run.made) in
    AreShowable (map shown_of (drop before run.ops)) run.turns → AreCounts (counts_of run.turns run.ops)
    → IsReport (report_of Whole before run.turns run.ops) run.turns
