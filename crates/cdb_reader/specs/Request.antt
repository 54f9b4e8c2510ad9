-- What a command block asks for.
use Rattle.std.specs.Prelude.{ℕ, ◌-◌, ◌==◌, Bool, true, false, if◌then◌else◌, List, slice_index, Result, Ok, Err}
use Rattle.disk_base.specs.declared.address.Lba.{Lba}
use Rattle.sense_data.specs.declared.sense.Sense.{Sense}
use Rattle.task_set.specs.declared.task.Touch.{Touch}
use Rattle.task_set.specs.declared.task.Touch.TheVariants.{Nothing, Range, All}
use Rattle.cdb_reader.specs.declared.command.Command.{Command}
use Rattle.cdb_reader.specs.declared.command.Command.TheVariants as command
use Rattle.cdb_reader.specs.Fields.{two_bytes, is_ten}
use Rattle.cdb_reader.specs.Operation.{address, block_count}

-- a command with its fields; blocks to reassign are a list
pub data Request : Type 0 where
  TestUnitReady : Request
  RequestSense : (allocation : ℕ) → Request
  ReassignBlocks : (blocks : List Lba) → Request
  Inquiry : (evpd : Bool) (page allocation : ℕ) → Request
  ModeSelect : (ten : Bool) (length : ℕ) → Request
  ModeSense : (ten dbd : Bool) (control page subpage allocation : ℕ) → Request
  ReadCapacity10 : Request
  Read : (from length : ℕ) (fua : Bool) → Request
  Write : (from length : ℕ) (fua : Bool) → Request
  WriteAndVerify : (from length : ℕ) → Request
  Verify : (from length : ℕ) → Request
  SynchronizeCache : (from count : ℕ) → Request
  ReadDefectData : (primary grown : Bool) (format allocation : ℕ) → Request
  LogSense : (page subpage pointer allocation : ℕ) → Request
  ReadCapacity16 : (allocation : ℕ) → Request
  ReportLuns : (select allocation : ℕ) → Request

-- what a command asks for
abbrev pub request_of : Command → Request
request_of command.TestUnitReady = TestUnitReady
request_of (command.RequestSense allocation) = RequestSense allocation
request_of (command.ReassignBlocks blocks) = ReassignBlocks blocks.items
request_of (command.Inquiry evpd page allocation) = Inquiry evpd page allocation
request_of (command.ModeSelect ten length) = ModeSelect ten length
request_of (command.ModeSense ten dbd control page subpage allocation) = ModeSense ten dbd control page subpage allocation
request_of command.ReadCapacity10 = ReadCapacity10
request_of (command.Read from length fua) = Read from length fua
request_of (command.Write from length fua) = Write from length fua
request_of (command.WriteAndVerify from length) = WriteAndVerify from length
request_of (command.Verify from length) = Verify from length
request_of (command.SynchronizeCache from count) = SynchronizeCache from count
request_of (command.ReadDefectData primary grown format allocation) = ReadDefectData primary grown format allocation
request_of (command.LogSense page subpage pointer allocation) = LogSense page subpage pointer allocation
request_of (command.ReadCapacity16 allocation) = ReadCapacity16 allocation
request_of (command.ReportLuns select allocation) = ReportLuns select allocation

-- what a command block asks for, or why it is refused
abbrev pub outcome_of : Result Command Sense → Result Request Sense
outcome_of (Ok c) = Ok (request_of c)
outcome_of (Err sense) = Err sense

-- an allocation or parameter list length: byte 4 in the 6-byte form, bytes 7 and 8 in the 10-byte form
abbrev pub list_length : List ℕ → ℕ
list_length bs = if is_ten bs then two_bytes bs 7 else slice_index bs 4

-- how many blocks a sync names: 0 stands for all up to the last
abbrev pub sync_count : List ℕ → ℕ → ℕ
sync_count bs capacity = if block_count bs == 0 then capacity - address bs else block_count bs

-- the blocks that a command touches
abbrev pub touch_of : Request → Touch
touch_of TestUnitReady = Nothing
touch_of (RequestSense allocation) = Nothing
touch_of (ReassignBlocks blocks) = All
touch_of (Inquiry evpd page allocation) = Nothing
touch_of (ModeSelect ten length) = Nothing
touch_of (ModeSense ten dbd control page subpage allocation) = Nothing
touch_of ReadCapacity10 = Nothing
touch_of (Read from length fua) = Range from length false
touch_of (Write from length fua) = Range from length true
touch_of (WriteAndVerify from length) = Range from length true
touch_of (Verify from length) = Range from length false
touch_of (SynchronizeCache from count) = Range from count false
touch_of (ReadDefectData primary grown format allocation) = Nothing
touch_of (LogSense page subpage pointer allocation) = Nothing
touch_of (ReadCapacity16 allocation) = Nothing
touch_of (ReportLuns select allocation) = Nothing
