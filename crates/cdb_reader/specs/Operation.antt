-- The commands that are known, and which fields of theirs are refused (SPC-4, commands for all device types; SBC-3,
-- commands for direct access block devices).
use Rattle.std.specs.Prelude.{ℕ, ◌+◌, ◌/◌, ◌%◌, ◌==◌, ◌&&◌, ◌||◌, not, nat_lt, Bool, true, false, if◌then◌else◌, List, slice_index, Option, Some, None}
use Rattle.cdb_reader.specs.declared.operation.Operation.{Operation}
use Rattle.cdb_reader.specs.declared.operation.Operation.TheVariants.{TestUnitReady, RequestSense, ReassignBlocks, Inquiry, ModeSelect, ModeSense, ReadCapacity10, Read, Write, WriteAndVerify, Verify, SynchronizeCache, ReadDefectData, LogSense, ReadCapacity16, ReportLuns}
use Rattle.cdb_reader.specs.Fields.{bit, two_bytes, four_bytes, eight_bytes, is_sixteen}

-- the command of an operation code
unfoldable pub operation_of : ℕ → Option Operation
operation_of code =
    if code == 0x00 then Some TestUnitReady else
    if code == 0x03 then Some RequestSense else
    if code == 0x07 then Some ReassignBlocks else
    if code == 0x12 then Some Inquiry else
    if code == 0x15 || code == 0x55 then Some ModeSelect else
    if code == 0x1A || code == 0x5A then Some ModeSense else
    if code == 0x25 then Some ReadCapacity10 else
    if code == 0x28 || code == 0x88 then Some Read else
    if code == 0x2A || code == 0x8A then Some Write else
    if code == 0x2E then Some WriteAndVerify else
    if code == 0x2F then Some Verify else
    if code == 0x35 || code == 0x91 then Some SynchronizeCache else
    if code == 0x37 then Some ReadDefectData else
    if code == 0x4D then Some LogSense else
    if code == 0x9E then Some ReadCapacity16 else
    if code == 0xA0 then Some ReportLuns else None

-- the first block that a command names
abbrev pub address : List ℕ → ℕ
address bs = if is_sixteen bs then eight_bytes bs 2 else four_bytes bs 2

-- how many blocks a command names
abbrev pub block_count : List ℕ → ℕ
block_count bs = if is_sixteen bs then four_bytes bs 10 else two_bytes bs 7

-- the field RDPROTECT, WRPROTECT or VRPROTECT
abbrev pub protect : List ℕ → ℕ
protect bs = slice_index bs 1 / 32

-- the field BYTCHK
abbrev pub byte_check : List ℕ → ℕ
byte_check bs = slice_index bs 1 / 2 % 4

-- the field SERVICE ACTION
abbrev pub service_action : List ℕ → ℕ
service_action bs = slice_index bs 1 % 32

-- the most blocks that a command reads, writes or verifies
abbrev pub blocks_per_command : ℕ
blocks_per_command = 256

-- a protection field or a length that is refused
abbrev pub refuses_transfer : List ℕ → Bool
refuses_transfer bs = not (protect bs == 0) || nat_lt blocks_per_command (block_count bs)

-- a field of the command has a value that is refused. Page, subpage, page control, report and parameter pointer are left
-- to the commands that answer with pages
abbrev pub refuses_field : Operation → List ℕ → Bool
refuses_field TestUnitReady bs = false
refuses_field RequestSense bs = bit bs 1 0
refuses_field ReassignBlocks bs = false
refuses_field Inquiry bs = false
refuses_field ModeSelect bs = not (bit bs 1 4) || bit bs 1 0
refuses_field ModeSense bs = false
refuses_field ReadCapacity10 bs = false
refuses_field Read bs = refuses_transfer bs
refuses_field Write bs = refuses_transfer bs
refuses_field WriteAndVerify bs = not (byte_check bs == 0) || refuses_transfer bs
refuses_field Verify bs = not (byte_check bs == 0) || refuses_transfer bs
refuses_field SynchronizeCache bs = bit bs 1 1
refuses_field ReadDefectData bs = false
refuses_field LogSense bs = bit bs 1 0
refuses_field ReadCapacity16 bs = not (service_action bs == 0x10)
refuses_field ReportLuns bs = false

-- the command names blocks by an address and a number of them
abbrev pub names_range : Operation → Bool
names_range TestUnitReady = false
names_range RequestSense = false
names_range ReassignBlocks = false
names_range Inquiry = false
names_range ModeSelect = false
names_range ModeSense = false
names_range ReadCapacity10 = false
names_range Read = true
names_range Write = true
names_range WriteAndVerify = true
names_range Verify = true
names_range SynchronizeCache = true
names_range ReadDefectData = false
names_range LogSense = false
names_range ReadCapacity16 = false
names_range ReportLuns = false

-- the command names a block past the last, or begins past the first one after it
abbrev pub reaches_past : Operation → List ℕ → ℕ → Bool
reaches_past operation bs capacity = names_range operation && nat_lt capacity (address bs + block_count bs)
