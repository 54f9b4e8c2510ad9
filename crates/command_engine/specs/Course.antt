-- Where a started command stands, and with what it begins.
use Rattle.std.specs.Prelude.{ℕ, ◌-◌, ◌==◌, nat_lt, not, Bool, true, false, if◌then◌else◌, List, [], Option, None, unwrap_or}
use Rattle.disk_base.specs.declared.command.DataOut.{DataOut}
use Rattle.sense_data.specs.Sense.{sense_of}
use Rattle.mode_pages.specs.declared.settings.Settings.{Settings}
use Rattle.read_recovery.specs.Stages.{begun}
use Rattle.cdb_reader.specs.declared.plan.Plan.{Plan}
use Rattle.cdb_reader.specs.declared.plan.Plan.TheVariants.{Ending, Answering, Writing}
use Rattle.cdb_reader.specs.Plan.{plan_of, block_of}
use Rattle.cdb_reader.specs.Replies.{good, check_condition}
use Rattle.cdb_reader.specs.Request.{Request}
use Rattle.cdb_reader.specs.Request as request
use Rattle.command_engine.specs.declared.step.Recovery.{Recovery}
use Rattle.command_engine.specs.declared.step.Step.{Step}
use Rattle.command_engine.specs.declared.step.Step.TheVariants.{Trying}

-- where a started command stands: the settings that it began with, whether the values that it gets are its data, the plan that
-- it still owes, how many descriptors of its list were moved to spare sectors, what is to be done about the block that comes
-- next, and the last block that was found past the plain read
pub record Course : Type 0 where
  pub settings : Settings
  pub gives : Bool
  pub plan : Plan
  pub moved : ℕ
  pub step : Step
  pub recovered : Option Recovery

-- what a command owes that names no block: bytes and then a reply, but where only settings may change. READ DEFECT DATA tells
-- where another format was asked for than the one that it gives (SBC-3, physical sector format)
abbrev pub plan_without_blocks : Request → Plan
plan_without_blocks (request.ModeSelect ten length) = Ending good
plan_without_blocks (request.ReadDefectData primary grown format allocation) =
    Answering [] (if format == 5 then good else check_condition (sense_of 1 0x1C 0x00))
plan_without_blocks other = Answering [] good

-- what a command owes as it starts: writes go through where the write cache is off, and a recovery may be reported where PER is
-- set
abbrev pub first_plan : Request → DataOut → Settings → Plan
first_plan request sent settings = unwrap_or (plan_of request sent (not settings.wce) settings.per) (plan_without_blocks request)

-- a READ gives the values that it gets as data; other commands only look whether they can be read
abbrev pub gives_data : Request → Bool
gives_data (request.Read from count fua) = true
gives_data other = false

-- where a command stands as it starts
abbrev pub course_of : Request → DataOut → Settings → Course
course_of request sent settings = record {
  settings = settings;
  gives = gives_data request;
  plan = first_plan request sent settings;
  moved = 0;
  step = Trying (begun settings.retry);
  recovered = None;
}

-- the data of the k-th block of a write, and of the block that comes next
abbrev pub block_owed : Plan → ℕ → List ℕ
block_owed (Writing w) k = block_of w.sent k
block_owed plan k = []

abbrev pub next_block : Plan → List ℕ
next_block (Writing w) = block_of w.sent (w.at - w.from)
next_block plan = []

-- the command still writes, and has a k-th block
abbrev pub owes_block : Plan → ℕ → Bool
owes_block (Writing w) k = nat_lt k (w.end - w.from)
owes_block plan k = false

-- the command still writes, and a block comes next
abbrev pub puts_next : Plan → Bool
puts_next (Writing w) = nat_lt w.at w.end
puts_next plan = false
