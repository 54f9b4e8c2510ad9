-- What a command owes from its start on: the first rule that applies decides.
use Rattle.std.specs.Prelude.{ℕ, ◌==◌, ◌&&◌, Bool, true, false, not, if◌then◌else◌, List, take, unwrap_or, Option, Some, None, Result, Ok, Err}
use Rattle.std.specs.Option.{option_map_or}
use Rattle.disk_base.specs.declared.command.DataOut.{DataOut}
use Rattle.sense_data.specs.declared.sense.Sense.{Sense}
use Rattle.sense_data.specs.declared.reply.Reply.{Reply}
use Rattle.sense_data.specs.Sense.{sense_of, sense_bytes}
use Rattle.sense_data.specs.Attentions.{first_of}
use Rattle.cdb_reader.specs.declared.plan.Plan.{Plan}
use Rattle.cdb_reader.specs.declared.plan.Plan.TheVariants.{Ending, Answering, Changing, Over}
use Rattle.cdb_reader.specs.Plan.{plan_of}
use Rattle.cdb_reader.specs.Replies.{good, check_condition}
use Rattle.cdb_reader.specs.Request.{Request, TestUnitReady, RequestSense, ReassignBlocks, Inquiry, ModeSelect, ModeSense, ReadCapacity10, Read, Write, WriteAndVerify, Verify, SynchronizeCache, ReadDefectData, LogSense, ReadCapacity16, ReportLuns}
use Rattle.mode_pages.specs.declared.settings.Settings.{Settings}
use Rattle.mode_pages.specs.ModeSense.{sensed}
use Rattle.inquiry_data.specs.Identity.{inquiry_data}
use Rattle.inquiry_data.specs.Capacity.{short_capacity, long_capacity}
use Rattle.inquiry_data.specs.Luns.{reported_luns}
use Rattle.scan_log.specs.Pages.{log_data}
use Rattle.block_machine.specs.Scan.{scan_shown}
use Rattle.block_machine.specs.Attentions.{attention_met}
use Rattle.block_machine.specs.Settings.{same_settings, settings_made}
use Rattle.block_machine.specs.DriveOnly.{defect_heading}
use Rattle.block_machine.specs.State.{State, Duty}

-- the commands that need the medium (SBC-3)
abbrev pub is_medium : Request → Bool
is_medium TestUnitReady = true
is_medium (ReassignBlocks blocks) = true
is_medium (Read from count fua) = true
is_medium (Write from count fua) = true
is_medium (WriteAndVerify from count) = true
is_medium (Verify from count) = true
is_medium (SynchronizeCache from count) = true
is_medium (ReadDefectData primary grown format allocation) = true
is_medium other = false

-- to end with CHECK CONDITION and this sense data is all that is owed
abbrev pub refusing : Sense → Plan
refusing sense = Ending (check_condition sense)

-- these bytes are owed, as far as the allocation length goes, and GOOD; or INVALID FIELD IN CDB where there are none
abbrev pub answering : ℕ → Option (List ℕ) → Plan
answering allocation None = refusing (sense_of 5 0x24 0x00)
answering allocation (Some bytes) = Answering (take allocation bytes) good

-- these bytes are owed, and GOOD; or the refusal
abbrev pub answering_sensed : Result (List ℕ) Sense → Plan
answering_sensed (Ok bytes) = Answering bytes good
answering_sensed (Err sense) = refusing sense

-- new mode values are owed where they differ from those that hold, else GOOD alone; or the refusal
abbrev pub changing : Settings → Result Settings Sense → Plan
changing settings (Ok made) = if same_settings settings made then Ending good else Changing
changing settings (Err sense) = refusing sense

-- how READ DEFECT DATA ends behind its data: GOOD, or DEFECT LIST NOT FOUND where another format was asked for than the one
-- that is given (SBC-3, READ DEFECT DATA (10) command)
abbrev pub defect_reply : ℕ → Reply
defect_reply format = if format == 5 then good else check_condition (sense_of 1 0x1C 0x00)

-- the sense data that REQUEST SENSE shows an initiator: the first attention that waits for it, or NO SENSE
abbrev pub sense_shown : State → ℕ → Sense
sense_shown s i = unwrap_or (first_of s.waiting i) (sense_of 0 0x00 0x00)

-- what an initiator's request owes with its data: pages, sense data or mode values as they are at this moment, or work on
-- blocks
abbrev pub plan_asked : ℕ → State → ℕ → DataOut → Request → Plan
plan_asked capacity s i sent (RequestSense allocation) = answering allocation (Some (sense_bytes (sense_shown s i)))
plan_asked capacity s i sent (Inquiry evpd page allocation) = answering allocation (inquiry_data evpd page)
plan_asked capacity s i sent (ModeSelect ten count) = changing s.settings (settings_made capacity s.settings ten count sent)
plan_asked capacity s i sent (ModeSense ten dbd control page subpage allocation) = answering_sensed (sensed s.settings capacity
    (record { ten = ten; dbd = dbd; control = control; page = page; subpage = subpage; allocation = allocation }))
plan_asked capacity s i sent ReadCapacity10 = Answering (short_capacity capacity) good
plan_asked capacity s i sent (ReadDefectData primary grown format allocation) =
    Answering (defect_heading primary grown allocation) (defect_reply format)
plan_asked capacity s i sent (LogSense page subpage pointer allocation) =
    answering allocation (log_data (scan_shown capacity s.settings.bms s.scan) s.scan.findings page subpage pointer)
plan_asked capacity s i sent (ReadCapacity16 allocation) = answering allocation (Some (long_capacity capacity))
plan_asked capacity s i sent (ReportLuns select allocation) = answering allocation (reported_luns select)
plan_asked capacity s i sent request = unwrap_or (plan_of request sent (not s.settings.wce) s.settings.per) Over

-- while the map is corrupt, a command that needs the medium owes MEDIUM FORMAT CORRUPTED alone
abbrev pub plan_with_map : ℕ → State → ℕ → DataOut → Request → Plan
plan_with_map capacity s i sent request =
    if s.corrupt && is_medium request then refusing (sense_of 3 0x31 0x00) else plan_asked capacity s i sent request

-- a command block that fails a check owes that check's sense data alone
abbrev pub plan_unless_refused : ℕ → State → ℕ → DataOut → Result Request Sense → Plan
plan_unless_refused capacity s i sent (Ok request) = plan_with_map capacity s i sent request
plan_unless_refused capacity s i sent (Err sense) = refusing sense

-- what a command owes at its start, by the first rule that applies: an attention that it meets, a check that it fails, a
-- map that is corrupt, and else what it asks for
abbrev pub first_plan : ℕ → State → ℕ → Duty → Plan
first_plan capacity s i duty =
    option_map_or refusing (attention_met s.waiting i duty.code) (plan_unless_refused capacity s i duty.sent duty.asks)
