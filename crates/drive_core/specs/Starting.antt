-- With what a command starts, and a drive.
use Rattle.std.specs.Prelude.{◌≡◌, ℕ, Bool, false, IsTrue, slice_index, Result, Ok}
use Rattle.disk_base.specs.declared.command.DataOut.{DataOut}
use Rattle.sense_data.specs.declared.sense.Sense.{Sense}
use Rattle.task_set.specs.declared.member.Member.{Member}
use Rattle.mode_pages.specs.declared.settings.Settings.{Settings}
use Rattle.mode_pages.specs.Settings.{default_settings}
use Rattle.cdb_reader.specs.Read.{in_range, has_data, read_of}
use Rattle.cdb_reader.specs.Request.{Request, ModeSelect, request_of}
use Rattle.cdb_reader.specs.declared.plan.Plan.{Plan}
use Rattle.cdb_reader.specs.declared.plan.Plan.TheVariants.{Ending, Answering, Changing}
use Rattle.geometry_map.specs.DefectMap.{DefectMap}
use Rattle.block_machine.specs.Attentions.{attentions_at_start}
use Rattle.block_machine.specs.Scan.{scan_at_start}
use Rattle.block_machine.specs.State.{initiator_of}
use Rattle.block_machine.specs.Plans.{first_plan}
use Rattle.block_machine.specs.Settings.{settings_made}
use Rattle.history_replay.specs.declared.known.Known.{Known}
use Rattle.history_replay.specs.Known.{scan_of, state_of, duty_of}
use Rattle.drive_core.specs.declared.accepted.Accepted.{Accepted}
use Rattle.drive_core.specs.declared.starting.First.{First}
use Rattle.drive_core.specs.declared.starting.First.TheVariants.{Reply, Page, Change, Work}
use Rattle.drive_scene.specs.Evidence.{page_of}
use Rattle.drive_scene.specs.Scene.{Scene, capacity}

-- a fresh drive's mode values are the defaults, and it waits to tell each initiator that the power came on
pub record KnowsStart (blocks : ℕ) (known : Known) : Type 0 where
  pub capacity : known.capacity ≡ blocks
  pub settings : known.settings ≡ default_settings
  pub waiting : known.waiting ≡ attentions_at_start
  pub corrupt : known.corrupt ≡ false
  pub scan : scan_of known.scan ≡ scan_at_start

-- work on blocks begins by a command that the command block asks for; it names blocks below a capacity, and has its data
pub record IsWorkFor (blocks : ℕ) (asks : Result Request Sense) (sent : DataOut) (request : Request) : Type 0 where
  pub asked : asks ≡ Ok request
  pub range : IsTrue (in_range request blocks)
  pub data_sent : IsTrue (has_data request sent)

-- new mode values are those that a MODE SELECT of this parameter list makes of the ones that hold
pub record IsSelected (blocks : ℕ) (settings : Settings) (asks : Result Request Sense) (sent : DataOut) (made : Settings) : Type 0 where
  pub ten : Bool
  pub count : ℕ
  pub asked : asks ≡ Ok (ModeSelect ten count)
  pub selected : settings_made blocks settings ten count sent ≡ Ok made

-- a plan begins with its reply alone, with data and its reply, with new mode values, or with work
abbrev pub BeginsBy : DefectMap → ℕ → Settings → Plan → Result Request Sense → DataOut → First → Type 0
BeginsBy m blocks settings (Ending reply) asks sent (Reply given) = given ≡ reply
BeginsBy m blocks settings (Ending reply) asks sent other = ⊥
BeginsBy m blocks settings (Answering planned reply) asks sent (Page bytes given) = (bytes ≡ page_of m asks planned) × (given ≡ reply)
BeginsBy m blocks settings (Answering planned reply) asks sent other = ⊥
BeginsBy m blocks settings Changing asks sent (Change made) = IsSelected blocks settings asks sent made
BeginsBy m blocks settings Changing asks sent other = ⊥
BeginsBy m blocks settings plan asks sent (Work command) = IsWorkFor blocks asks sent (request_of command)
BeginsBy m blocks settings plan asks sent other = ⊥

-- so begins an accepted command of a member of the set
abbrev pub IsFirstBy : DefectMap → Known → Member → Accepted → First → Type 0
IsFirstBy m known member a first = BeginsBy m known.capacity known.settings
    (first_plan known.capacity (state_of known) member.task.initiator (duty_of (slice_index a.cdb 0) (read_of a.cdb a.sent known.capacity) a.sent))
    (read_of a.cdb a.sent known.capacity) a.sent first

-- so begins a command of a history
abbrev pub IsFirst : Scene → ℕ → First → Type 0
IsFirst s c first = BeginsBy s.map (capacity s) s.hist.settings (first_plan (capacity s) s.hist (initiator_of s.hist c) (s.hist.duties c))
    (s.hist.duties c).asks (s.hist.duties c).sent first
