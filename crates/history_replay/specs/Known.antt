-- What a command's beginning depends on, as a state.
use Rattle.std.specs.Prelude.{ℕ, ◌+◌, ◌≤◌, Bool, true, List, [], None, Result}
use Rattle.disk_base.specs.declared.address.Lba.{Lba}
use Rattle.disk_base.specs.declared.command.DataOut.{DataOut}
use Rattle.sense_data.specs.declared.sense.Sense.{Sense}
use Rattle.sense_data.specs.Attentions.{none_waiting}
use Rattle.task_set.specs.declared.member.Member.{Member}
use Rattle.cdb_reader.specs.declared.command.Command.{Command}
use Rattle.cdb_reader.specs.declared.command.Command.TheVariants as command
use Rattle.cdb_reader.specs.declared.plan.Plan.{Plan}
use Rattle.cdb_reader.specs.declared.plan.Plan.TheVariants.{Syncing, Moving}
use Rattle.cdb_reader.specs.Request.{Request}
use Rattle.scan_log.specs.Findings.{fits_a_byte}
use Rattle.block_machine.specs.declared.entry.Entry.{Entry}
use Rattle.block_machine.specs.declared.entry.Entry.TheVariants.{Logged}
use Rattle.block_machine.specs.Scan.{Scan}
use Rattle.block_machine.specs.State.{State, Duty, state_at_start}
use Rattle.history_replay.specs.declared.known.Known.{Known}
use Rattle.history_replay.specs.declared.known.Scanning.{Scanning}

-- the background scan
abbrev pub scan_of : Scanning → Scan
scan_of scan = record { minutes = scan.minutes; scanned = scan.scanned; findings = scan.log }

-- an entry that the scan's log can take
abbrev pub may_log : Entry → Bool
may_log (Logged finding) = fits_a_byte finding
may_log other = true

-- a state with these mode values, attentions, map and scan; its commands and blocks are those at the start
abbrev pub state_of : Known → State
state_of known = record (state_at_start known.waiting) { settings = known.settings; corrupt = known.corrupt; scan = scan_of known.scan }

-- a command that didn't start yet
abbrev pub duty_of : ℕ → Result Request Sense → DataOut → Duty
duty_of code asks sent = record { code = code; asks = asks; sent = sent; owes = None; dirty_then = [] }

-- a PAGE CONTROL field has two bits
abbrev pub HasPageControl : Command → Type 0
HasPageControl (command.ModeSense ten dbd control page subpage allocation) = control ≤ 3
HasPageControl other = Unit {0}

-- so many blocks to be synced
abbrev pub syncing_from : ℕ → ℕ → Plan
syncing_from from count = Syncing (record { at = from; end = from + count })

-- blocks to be moved
abbrev pub moving_blocks : List Lba → Plan
moving_blocks blocks = Moving (record { blocks = blocks; hardened = 0 })

-- the blocks that a read or a verification names are below 4,096
abbrev pub NamesFewBlocks : Command → Type 0
NamesFewBlocks (command.Read from length fua) = from + length ≤ 4096
NamesFewBlocks (command.Verify from length) = from + length ≤ 4096
NamesFewBlocks (command.WriteAndVerify from length) = from + length ≤ 4096
NamesFewBlocks other = Unit {0}

-- a state with these commands in it
abbrev pub with_set : List Member → State
with_set set = record (state_at_start none_waiting) { set = set }
