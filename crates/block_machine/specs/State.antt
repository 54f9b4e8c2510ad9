-- What a history has come to.
use Rattle.std.specs.Prelude.{ℕ, Bool, false, not, nat_lt, List, [], length, Option, None, Result, Err}
use Rattle.std.specs.Option.{option_and_then, option_map_or}
use Rattle.disk_base.specs.declared.command.DataOut.{DataOut}
use Rattle.disk_base.specs.declared.command.DataOut.TheVariants.{Nothing}
use Rattle.sense_data.specs.declared.sense.Sense.{Sense}
use Rattle.sense_data.specs.Sense.{sense_of}
use Rattle.sense_data.specs.Attentions.{Waiting}
use Rattle.task_set.specs.declared.member.Member.{Member}
use Rattle.task_set.specs.Members.{member_of}
use Rattle.cdb_reader.specs.declared.plan.Plan.{Plan}
use Rattle.cdb_reader.specs.Request.{Request}
use Rattle.mode_pages.specs.declared.settings.Settings.{Settings}
use Rattle.mode_pages.specs.Settings.{default_settings}
use Rattle.block_machine.specs.Blocks.{Blocks, blocks_at_start}
use Rattle.block_machine.specs.Scan.{Scan, scan_at_start}

-- what is known of a command: its operation code; what it asks for, or why it is refused; the data that came with it; from
-- its start on its plan, what it still owes; and the blocks that were dirty when the last turn of work on it began
pub record Duty : Type 0 where
  pub code : ℕ
  pub asks : Result Request Sense
  pub sent : DataOut
  pub owes : Option Plan
  pub dirty_then : List ℕ

-- what is known of a number that no command has
abbrev pub no_duty : Duty
no_duty = record { code = 0; asks = Err (sense_of 5 0x20 0x00); sent = Nothing; owes = None; dirty_then = [] }

-- what a history has come to: how many commands came; those that are in, by age; what is known of each, by its number; the
-- mode values; the attentions that wait; whether the map was corrupt when the power came on; the background scan; the
-- blocks, and the addresses of the dirty ones
pub record State : Type 0 where
  pub arrived : ℕ
  pub set : List Member
  pub duties : ℕ → Duty
  pub settings : Settings
  pub waiting : Waiting
  pub corrupt : Bool
  pub scan : Scan
  pub blocks : Blocks
  pub dirty : List ℕ

-- before the first turn, with attentions that wait
abbrev pub state_at_start : Waiting → State
state_at_start waiting = record {
  arrived = 0;
  set = [];
  duties = λ c. no_duty;
  settings = default_settings;
  waiting = waiting;
  corrupt = false;
  scan = scan_at_start;
  blocks = blocks_at_start;
  dirty = [];
}

-- the most commands that are in at once
abbrev pub tasks_at_most : ℕ
tasks_at_most = 64

-- as many commands are in as may be
abbrev pub is_full : State → Bool
is_full s = not (nat_lt (length s.set) tasks_at_most)

-- the initiator of a command that is in; 0 where it isn't
abbrev pub initiator_of : State → ℕ → ℕ
initiator_of s c = option_map_or (λ m. m.task.initiator) (member_of s.set c) 0

-- the plan of a command, what it owes, where it is in
abbrev pub owed_by : State → ℕ → Option Plan
owed_by s c = option_and_then (λ m. (s.duties c).owes) (member_of s.set c)
