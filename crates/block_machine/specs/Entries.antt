-- Which entries may come in a turn, as far as commands go.
use Rattle.std.specs.Prelude.{ℕ, ◌+◌, ◌==◌, ◌&&◌, ◌||◌, Bool, true, false, not, nat_lt, Option, Some, Result, Ok, Err}
use Rattle.std.specs.Option.{option_map_or, option_and_then, is_some, is_none}
use Rattle.sense_data.specs.declared.sense.Sense.{Sense}
use Rattle.sense_data.specs.declared.reply.Reply.{Reply}
use Rattle.task_set.specs.Members.{member_of, first_forbidding}
use Rattle.cdb_reader.specs.declared.plan.Plan.{Plan}
use Rattle.cdb_reader.specs.declared.plan.Plan.TheVariants.{Reading}
use Rattle.cdb_reader.specs.Replies.{is_recovered}
use Rattle.cdb_reader.specs.Request.{Request, Read, WriteAndVerify, Verify, ModeSelect}
use Rattle.mode_pages.specs.declared.settings.Settings.{Settings}
use Rattle.scan_log.specs.Findings.{fits_a_byte}
use Rattle.block_machine.specs.declared.entry.Who.TheVariants.{Command, Drive}
use Rattle.block_machine.specs.declared.entry.Recovered.{Recovered}
use Rattle.block_machine.specs.declared.entry.Recovered.TheVariants.{Ready, Corrupt, Formatting}
use Rattle.block_machine.specs.declared.entry.Entry.{Entry}
use Rattle.block_machine.specs.declared.entry.Entry.TheVariants.{Arrived, Started, Get, Put, Harden, Passed, GiveUp, Page, Ended, Aborted, Asked, Mode, Scanned, Logged, Cut, PoweredOn, Tick, Blank, Fresh}
use Rattle.block_machine.specs.declared.turn.Label.{Label}
use Rattle.block_machine.specs.declared.turn.Label.TheVariants.{Work, Job}
use Rattle.block_machine.specs.Blocks.{is_dirty}
use Rattle.block_machine.specs.DriveOnly.{tells_recovery}
use Rattle.block_machine.specs.Settings.{same_settings, settings_made}
use Rattle.block_machine.specs.State.{State, Duty, owed_by}
use Rattle.block_machine.specs.Deeds.{done_by, owed_after}

-- the turn is one of work on this command
abbrev pub works_on : Label → ℕ → Bool
works_on (Work d) c = d == c
works_on other c = false

-- the turn is one of work on this command, or on a move; which command opened that a history doesn't tell
abbrev pub may_write_for : Label → ℕ → Bool
may_write_for (Job j) c = true
may_write_for label c = works_on label c

-- a command may start where it is in, wasn't started, and no other forbids it (SAM-4, task attributes)
abbrev pub may_start : State → ℕ → Bool
may_start s c = option_map_or (λ m. not m.started && is_none (first_forbidding s.set m.task)) (member_of s.set c) false

-- the entry is what its command's plan allows next
abbrev pub is_owed : Label → State → Entry → Bool
is_owed label s e = is_some (option_and_then (owed_after s) (done_by label s e))

-- sense data tell of a recovered block among those that the command reads or verifies
abbrev pub recovery_within : Result Request Sense → Sense → Bool
recovery_within (Ok (Read from count fua)) sense = tells_recovery from (from + count) sense
recovery_within (Ok (Verify from count)) sense = tells_recovery from (from + count) sense
recovery_within (Ok (WriteAndVerify from count)) sense = tells_recovery from (from + count) sense
recovery_within other sense = false

-- a read or a verification that ends with RECOVERED ERROR tells which of its blocks was recovered, and how
abbrev pub ends_as_told : Option Plan → Duty → Reply → Bool
ends_as_told (Some (Reading r)) duty reply = not (is_recovered reply) || option_map_or (recovery_within duty.asks) reply.sense false
ends_as_told other duty reply = true

-- a MODE SELECT is in order, and these are the mode values that it makes
abbrev pub makes : Result Settings Sense → Settings → Bool
makes (Ok made) settings = same_settings made settings
makes (Err sense) settings = false

-- the command is a MODE SELECT that makes these mode values of those that hold
abbrev pub are_asked : ℕ → State → Duty → Result Request Sense → Settings → Bool
are_asked capacity s duty (Ok (ModeSelect ten count)) settings = makes (settings_made capacity s.settings ten count duty.sent) settings
are_asked capacity s duty other settings = false

-- the new mode values are those that the command at work asks for
abbrev pub mode_lawful : ℕ → Label → State → Settings → Bool
mode_lawful capacity (Work c) s settings = are_asked capacity s (s.duties c) (s.duties c).asks settings
mode_lawful capacity other s settings = false

-- the map was read at power on, or it is corrupt; no format is cut off yet
abbrev pub outcome_lawful : Recovered → Bool
outcome_lawful (Ready number) = true
outcome_lawful (Corrupt slot) = true
outcome_lawful (Formatting number) = false

-- whether an entry may come, as far as commands go, in a turn that isn't an arrival
abbrev pub entry_lawful : ℕ → Label → State → Entry → Bool
entry_lawful capacity label s (Started c) = works_on label c && may_start s c
entry_lawful capacity label s (Get c b v) = works_on label c && is_owed label s (Get c b v)
entry_lawful capacity label s (Put c b v) = may_write_for label c && is_owed label s (Put c b v)
entry_lawful capacity label s (Harden (Command c) b) =
    may_write_for label c && is_owed label s (Harden (Command c) b) && is_dirty (s.blocks b.0)
entry_lawful capacity label s (Passed c from to) = works_on label c && is_owed label s (Passed c from to)
entry_lawful capacity label s (Page c bytes) = works_on label c && is_owed label s (Page c bytes)
entry_lawful capacity label s (Ended c reply) =
    works_on label c && is_owed label s (Ended c reply) && ends_as_told (owed_by s c) (s.duties c) reply
entry_lawful capacity label s (Mode settings) = is_owed label s (Mode settings) && mode_lawful capacity label s settings
entry_lawful capacity label s (GiveUp b) = nat_lt b.0 capacity
entry_lawful capacity label s (Logged finding) = fits_a_byte finding
entry_lawful capacity label s (PoweredOn outcome) = outcome_lawful outcome
-- the drive's own hardening, its scan, the power and the time come as they come
entry_lawful capacity label s (Harden Drive b) = true
entry_lawful capacity label s (Scanned b what) = true
entry_lawful capacity label s Cut = true
entry_lawful capacity label s (Tick minutes) = true
-- these stand in turns of arrivals alone
entry_lawful capacity label s (Arrived c i t a cdb sent) = false
entry_lawful capacity label s (Asked i what) = false
entry_lawful capacity label s (Aborted c) = false
-- the medium isn't formatted yet
entry_lawful capacity label s (Blank c) = false
entry_lawful capacity label s (Fresh c) = false
