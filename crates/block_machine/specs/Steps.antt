-- The state after an entry, whether it is lawful or not.
use Rattle.std.specs.Prelude.{ℕ, ◌+◌, ◌||◌, Bool, true, false, if◌then◌else◌, List, [], fold, slice_index, Option, Some, None, Result, Ok, Err}
use Rattle.std.specs.Option.{is_some}
use Rattle.disk_base.specs.At.{put_at}
use Rattle.disk_base.specs.declared.address.Tag.{Tag}
use Rattle.disk_base.specs.declared.command.Attribute.{Attribute}
use Rattle.disk_base.specs.declared.command.DataOut.{DataOut}
use Rattle.disk_base.specs.declared.command.Function.TheVariants.{Clear, Reset}
use Rattle.sense_data.specs.declared.sense.Sense.{Sense}
use Rattle.sense_data.specs.Attentions.{Waiting, first_taken, power_on_waiting}
use Rattle.task_set.specs.declared.member.Member.{Member}
use Rattle.task_set.specs.declared.task.Task.{Task}
use Rattle.task_set.specs.declared.task.Touch.{Touch}
use Rattle.task_set.specs.declared.task.Touch.TheVariants.{Nothing}
use Rattle.task_set.specs.Members.{with_arrived, with_started, without}
use Rattle.cdb_reader.specs.declared.plan.Plan.{Plan}
use Rattle.cdb_reader.specs.Read.{read_of}
use Rattle.cdb_reader.specs.Request.{Request, RequestSense, touch_of}
use Rattle.mode_pages.specs.declared.settings.Settings.{Settings}
use Rattle.mode_pages.specs.Settings.{default_settings}
use Rattle.block_machine.specs.declared.entry.Recovered.{Recovered}
use Rattle.block_machine.specs.declared.entry.Recovered.TheVariants.{Ready, Corrupt, Formatting}
use Rattle.block_machine.specs.declared.entry.Entry.{Entry}
use Rattle.block_machine.specs.declared.entry.Entry.TheVariants.{Arrived, Started, Ended, Aborted, Asked, Mode, Cut, PoweredOn}
use Rattle.block_machine.specs.declared.turn.Label.{Label}
use Rattle.block_machine.specs.declared.turn.Label.TheVariants.{Work}
use Rattle.block_machine.specs.Blocks.{blocks_after, dirty_after}
use Rattle.block_machine.specs.Scan.{scan_after}
use Rattle.block_machine.specs.Attentions.{attention_met, after_reset, after_mode_change, after_clear}
use Rattle.block_machine.specs.State.{State, Duty, is_full, initiator_of}
use Rattle.block_machine.specs.Plans.{first_plan}
use Rattle.block_machine.specs.Deeds.{Done, done_by, owed_after}

-- how many commands came, after an entry
abbrev pub arrived_after : ℕ → Entry → ℕ
arrived_after arrived (Arrived c i t a cdb sent) = arrived + 1
arrived_after arrived other = arrived

-- the blocks that a command touches; one that is refused touches nothing
abbrev pub touch_asked : Result Request Sense → Touch
touch_asked (Ok request) = touch_of request
touch_asked (Err sense) = Nothing

-- a command as the task set knows it
abbrev pub task_arrived : ℕ → ℕ → ℕ → Tag → Attribute → List ℕ → DataOut → Task
task_arrived capacity c i t a cdb sent =
    record { c = c; initiator = i; tag = t; attribute = a; touch = touch_asked (read_of cdb sent capacity) }

-- the commands that are in, after an entry: one that comes is, unless as many are in as may be, until it ends or is aborted
-- or the power goes off
abbrev pub set_after : ℕ → State → Entry → List Member
set_after capacity s (Arrived c i t a cdb sent) = if is_full s then s.set else with_arrived s.set (task_arrived capacity c i t a cdb sent)
set_after capacity s (Started c) = with_started s.set c
set_after capacity s (Ended c reply) = without s.set c
set_after capacity s (Aborted c) = without s.set c
set_after capacity s Cut = []
set_after capacity s other = s.set

-- what is known of commands, where one owes something else now
abbrev pub with_owed : (ℕ → Duty) → ℕ → Option Plan → ℕ → Duty
with_owed duties c owes = put_at c (record (duties c) { owes = owes }) duties

-- what is known of commands after what one did, if one did something
abbrev pub duties_done : State → Option Done → ℕ → Duty
duties_done s None = s.duties
duties_done s (Some d) = with_owed s.duties d.c (owed_after s d)

-- what is known of commands after an entry: one that comes owes nothing yet, one that starts owes what the first rule says,
-- and of that is left what its deeds leave
abbrev pub duties_after : ℕ → Label → State → Entry → ℕ → Duty
duties_after capacity label s (Arrived c i t a cdb sent) = put_at c (record {
  code = slice_index cdb 0;
  asks = read_of cdb sent capacity;
  sent = sent;
  owes = None;
  dirty_then = [];
}) s.duties
duties_after capacity label s (Started c) = with_owed s.duties c (Some (first_plan capacity s (initiator_of s c) (s.duties c)))
duties_after capacity label s e = duties_done s (done_by label s e)

-- the mode values after an entry: those that a MODE SELECT made, or the defaults at a reset and at power on
abbrev pub settings_after : Settings → Entry → Settings
settings_after settings (Mode made) = made
settings_after settings (Asked i Reset) = default_settings
settings_after settings (PoweredOn outcome) = default_settings
settings_after settings other = settings

-- what is asked for is REQUEST SENSE, which shows its initiator the first attention
abbrev pub is_request_sense : Result Request Sense → Bool
is_request_sense (Ok (RequestSense allocation)) = true
is_request_sense other = false

-- a command that starts takes the attention that it tells its initiator
abbrev pub waiting_at_start : Waiting → ℕ → Duty → Waiting
waiting_at_start waiting i duty =
    if is_some (attention_met waiting i duty.code) || is_request_sense duty.asks then first_taken waiting i else waiting

-- the attentions that wait, after an entry
abbrev pub waiting_after : Label → State → Entry → Waiting
waiting_after label s (Started c) = waiting_at_start s.waiting (initiator_of s c) (s.duties c)
waiting_after label s (Asked i Clear) = after_clear i s.set s.waiting
waiting_after label s (Asked i Reset) = after_reset s.waiting
waiting_after (Work c) s (Mode settings) = after_mode_change (initiator_of s c) s.waiting
waiting_after label s (PoweredOn outcome) = power_on_waiting
waiting_after label s other = s.waiting

-- the map couldn't be read
abbrev pub is_corrupt : Recovered → Bool
is_corrupt (Ready number) = false
is_corrupt (Corrupt slot) = true
is_corrupt (Formatting number) = false

-- whether the map couldn't be read when the power last came on
abbrev pub corrupt_after : Bool → Entry → Bool
corrupt_after corrupt (PoweredOn outcome) = is_corrupt outcome
corrupt_after corrupt other = corrupt

-- the state after an entry of a turn with this label
abbrev pub entry_after : ℕ → Label → State → Entry → State
entry_after capacity label s e = record {
  arrived = arrived_after s.arrived e;
  set = set_after capacity s e;
  duties = duties_after capacity label s e;
  settings = settings_after s.settings e;
  waiting = waiting_after label s e;
  corrupt = corrupt_after s.corrupt e;
  scan = scan_after s.scan e;
  blocks = blocks_after s.blocks e;
  dirty = dirty_after s.dirty e;
}

-- the state when a turn begins: for work on a command the blocks that are dirty now are noted
abbrev pub begun : State → Label → State
begun s (Work c) = record s { duties = put_at c (record (s.duties c) { dirty_then = s.dirty }) s.duties }
begun s other = s

-- the state after the entries of a turn
abbrev pub entries_after : ℕ → Label → State → List Entry → State
entries_after capacity label s entries = fold (entry_after capacity label) s entries
