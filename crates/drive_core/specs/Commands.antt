-- How a command that is in stands.
use Rattle.std.specs.Prelude.{◌≡◌, ◌*◌, ◌<◌, ◌≤◌, true, false, IsTrue, [], length, slice_index, Option, Some, None, Result}
use Rattle.std.specs.Option.{option_map_or, is_some}
use Rattle.sense_data.specs.declared.sense.Sense.{Sense}
use Rattle.task_set.specs.declared.member.Member.{Member}
use Rattle.read_recovery.specs.Stages.{Progress, next_stage}
use Rattle.geometry_map.specs.Size.{capacity_of}
use Rattle.geometry_map.specs.DefectMap.{place_of}
use Rattle.cdb_reader.specs.declared.plan.Reading as reading
use Rattle.cdb_reader.specs.declared.plan.Plan.{Plan}
use Rattle.cdb_reader.specs.declared.plan.Plan.TheVariants.{Reading, Writing, Syncing}
use Rattle.cdb_reader.specs.Read.{read_of}
use Rattle.cdb_reader.specs.Request.{Request}
use Rattle.command_engine.specs.declared.step.Recovery.{Recovery}
use Rattle.command_engine.specs.declared.step.Step.{Step}
use Rattle.command_engine.specs.declared.step.Step.TheVariants.{Trying}
use Rattle.command_engine.specs.Course.{Course}
use Rattle.command_engine.specs.Need.{end_of}
use Rattle.command_engine.specs.Ending.{recovered_error}
use Rattle.block_machine.specs.Entries.{recovery_within}
use Rattle.drive_core.specs.declared.accepted.Accepted.{Accepted}
use Rattle.drive_scene.specs.After.{last_found}
use Rattle.drive_scene.specs.Evidence.{lba, FailedBelow}
use Rattle.drive_core.specs.Served.{is_served, is_served_plan}
use Rattle.drive_scene.specs.View.{View}

-- a command that didn't start yet
pub record IsWaiting (v : View) (m : Member) (a : Accepted) : Type 0 where
  pub started : m.started ≡ false
  pub code : v.duty.code ≡ slice_index a.cdb 0
  pub asks : v.duty.asks ≡ read_of a.cdb a.sent (capacity_of v.size)
  pub sent : v.duty.sent ≡ a.sent
  pub owes : v.duty.owes ≡ None
  pub window : v.window ≡ []
  pub recovered : v.recovered ≡ None
  pub served : IsTrue (is_served v.duty.asks)

-- a read at the block that comes next: the stages so far failed, each with a fetch and a try, and what was tried or hardened
-- isn't dirty
pub record IsTrying (v : View) (r : reading.Reading) (p : Progress) : Type 0 where
  pub left : r.at < r.end
  pub next : is_some (next_stage p) ≡ true
  pub retry : p.retry ≡ v.settings.retry
  pub failed : FailedBelow v.window (place_of v.map (lba r.at)) p.retry p.failed
  pub unfound : last_found v.window ≡ None
  pub tried : length v.window ≡ 2 * p.failed
  pub clean : v.holds_dirty ≡ false

-- a command at the block that comes next, between its turns
abbrev pub IsAtBlock : View → Plan → Step → Type 0
IsAtBlock v (Reading r) (Trying p) = IsTrying v r p
IsAtBlock v (Writing w) (Trying p) = (v.window ≡ []) × (w.at < w.end) × (w.owes_harden ≡ false)
IsAtBlock v (Syncing y) (Trying p) = (v.window ≡ []) × (y.at < y.end)
IsAtBlock v plan step = ⊥

-- a recovery that is told is one of the command's own blocks
abbrev pub IsOwnRecovery : Result Request Sense → Option Recovery → Type 0
IsOwnRecovery asks None = Unit {0}
IsOwnRecovery asks (Some recovery) = IsTrue (option_map_or (recovery_within asks) (recovered_error recovery).sense false)

-- the blocks that a command is still to get are its own, so a recovery of each may be told; a write that is verified gets all its
-- blocks in the end
abbrev pub IsOwnRange : Result Request Sense → Plan → Type 0
IsOwnRange asks (Reading r) = (recovery : Recovery) → r.at ≤ recovery.b.0 → recovery.b.0 < r.end → IsOwnRecovery asks (Some recovery)
IsOwnRange asks (Writing w) =
    w.verifies ≡ true → (recovery : Recovery) → w.from ≤ recovery.b.0 → recovery.b.0 < w.end → IsOwnRecovery asks (Some recovery)
IsOwnRange asks plan = Unit {0}

-- a command that is at work: it goes by the plan and the mode values that the history has for it
pub record IsWorking (v : View) (m : Member) (w : Course) : Type 0 where
  pub started : m.started ≡ true
  pub owes : v.duty.owes ≡ Some w.plan
  pub settings : v.settings ≡ w.settings
  pub retry : w.settings.retry ≤ 20
  pub recovered : v.recovered ≡ w.recovered
  pub at_block : IsAtBlock v w.plan w.step
  pub range : end_of w.plan ≤ capacity_of v.size
  pub own_recovery : IsOwnRecovery v.duty.asks w.recovered
  pub own_range : IsOwnRange v.duty.asks w.plan
  pub served : IsTrue (is_served_plan w.plan)

abbrev pub IsUnderWay : View → Member → Accepted → Option Course → Type 0
IsUnderWay v m a None = IsWaiting v m a
IsUnderWay v m a (Some w) = IsWorking v m w

pub record IsCommand (v : View) (a : Accepted) : Type 0 where
  pub member : Member
  pub is_in : v.member ≡ Some member
  pub under_way : IsUnderWay v member a a.work

-- a command stands as the history has it; none where it isn't in
abbrev pub IsStaged : View → Option Accepted → Type 0
IsStaged v None = v.member ≡ None
IsStaged v (Some a) = IsCommand v a
