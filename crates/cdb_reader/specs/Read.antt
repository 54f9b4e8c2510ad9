-- The checks of a command block, in their order: the first that fails decides.
use Rattle.std.specs.Prelude.{ℕ, ◌+◌, ◌*◌, ◌/◌, ◌%◌, ◌==◌, ◌&&◌, not, nat_le, Bool, true, false, if◌then◌else◌, List, length, slice_index, Result, Ok, Err}
use Rattle.std.specs.Option.{option_map_or}
use Rattle.disk_base.specs.declared.address.Lba.{Lba}
use Rattle.disk_base.specs.declared.command.DataOut.{DataOut}
use Rattle.disk_base.specs.declared.command.DataOut.TheVariants.{Nothing, Fill, Given}
use Rattle.sense_data.specs.declared.sense.Sense.{Sense}
use Rattle.sense_data.specs.Sense.{sense_of}
use Rattle.cdb_reader.specs.declared.operation.Operation.{Operation}
use Rattle.cdb_reader.specs.declared.operation.Operation.TheVariants as operation
use Rattle.cdb_reader.specs.Fields.{bit, two_bytes, four_bytes, naca, is_ten}
use Rattle.cdb_reader.specs.Operation.{operation_of, address, block_count, blocks_per_command, refuses_field, reaches_past}
use Rattle.cdb_reader.specs.Reassign.{list_sent, blocks_of, descriptors_at_most, some_past}
use Rattle.cdb_reader.specs.Request.{Request, TestUnitReady, RequestSense, ReassignBlocks, Inquiry, ModeSelect, ModeSense, ReadCapacity10, Read, Write, WriteAndVerify, Verify, SynchronizeCache, ReadDefectData, LogSense, ReadCapacity16, ReportLuns, list_length, sync_count}

-- bytes of a block
abbrev pub block_length : ℕ
block_length = 512

-- the data have so many bytes; one repeated byte has as many as are wanted
abbrev pub has_length : DataOut → ℕ → Bool
has_length Nothing n = n == 0
has_length (Fill byte) n = true
has_length (Given bytes) n = length bytes == n

-- the command block and the data differ in how many blocks are written
abbrev pub refuses_blocks : Operation → List ℕ → DataOut → Bool
refuses_blocks operation.Write bs sent = not (has_length sent (block_length * block_count bs))
refuses_blocks operation.WriteAndVerify bs sent = not (has_length sent (block_length * block_count bs))
refuses_blocks other bs sent = false

-- the command block and the data differ in the length of the mode parameter list
abbrev pub refuses_list_length : Operation → List ℕ → DataOut → Bool
refuses_list_length operation.ModeSelect bs sent = not (has_length sent (list_length bs))
refuses_list_length other bs sent = false

-- reassigning these blocks, where they are some
abbrev pub reassigning : Result (List Lba) Sense → Result Request Sense
reassigning (Ok blocks) = Ok (ReassignBlocks blocks)
reassigning (Err sense) = Err sense

-- what a command asks for by its fields; a parameter list may be refused
abbrev pub asked : Operation → List ℕ → DataOut → ℕ → Result Request Sense
asked operation.TestUnitReady bs sent capacity = Ok TestUnitReady
asked operation.RequestSense bs sent capacity = Ok (RequestSense (slice_index bs 4))
asked operation.ReassignBlocks bs sent capacity = reassigning (blocks_of (bit bs 1 1) (bit bs 1 0) (list_sent sent) capacity)
asked operation.Inquiry bs sent capacity = Ok (Inquiry (bit bs 1 0) (slice_index bs 2) (two_bytes bs 3))
asked operation.ModeSelect bs sent capacity = Ok (ModeSelect (is_ten bs) (list_length bs))
asked operation.ModeSense bs sent capacity =
    Ok (ModeSense (is_ten bs) (bit bs 1 3) (slice_index bs 2 / 64) (slice_index bs 2 % 64) (slice_index bs 3) (list_length bs))
asked operation.ReadCapacity10 bs sent capacity = Ok ReadCapacity10
asked operation.Read bs sent capacity = Ok (Read (address bs) (block_count bs) (bit bs 1 3))
asked operation.Write bs sent capacity = Ok (Write (address bs) (block_count bs) (bit bs 1 3))
asked operation.WriteAndVerify bs sent capacity = Ok (WriteAndVerify (address bs) (block_count bs))
asked operation.Verify bs sent capacity = Ok (Verify (address bs) (block_count bs))
asked operation.SynchronizeCache bs sent capacity = Ok (SynchronizeCache (address bs) (sync_count bs capacity))
asked operation.ReadDefectData bs sent capacity = Ok (ReadDefectData (bit bs 2 4) (bit bs 2 3) (slice_index bs 2 % 8) (two_bytes bs 7))
asked operation.LogSense bs sent capacity = Ok (LogSense (slice_index bs 2 % 64) (slice_index bs 3) (two_bytes bs 5) (two_bytes bs 7))
asked operation.ReadCapacity16 bs sent capacity = Ok (ReadCapacity16 (four_bytes bs 10))
asked operation.ReportLuns bs sent capacity = Ok (ReportLuns (slice_index bs 2) (four_bytes bs 6))

-- the checks of a known command
abbrev pub checked : Operation → List ℕ → DataOut → ℕ → Result Request Sense
checked operation bs sent capacity =
    if naca bs then Err (sense_of 5 0x24 0x00) else
    if refuses_field operation bs then Err (sense_of 5 0x24 0x00) else
    if reaches_past operation bs capacity then Err (sense_of 5 0x21 0x00) else
    if refuses_blocks operation bs sent then Err (sense_of 5 0x24 0x00) else
    if refuses_list_length operation bs sent then Err (sense_of 5 0x1A 0x00) else
    asked operation bs sent capacity

-- what a command block asks for, with its data and at a capacity; or the first refusal
abbrev pub read_of : List ℕ → DataOut → ℕ → Result Request Sense
read_of bs sent capacity =
    option_map_or (λ operation. checked operation bs sent capacity) (operation_of (slice_index bs 0)) (Err (sense_of 5 0x20 0x00))

-- the blocks that a command names are below the capacity, and no more than one command may name
abbrev pub in_range : Request → ℕ → Bool
in_range (Read from count fua) capacity = nat_le (from + count) capacity && nat_le count blocks_per_command
in_range (Write from count fua) capacity = nat_le (from + count) capacity && nat_le count blocks_per_command
in_range (WriteAndVerify from count) capacity = nat_le (from + count) capacity && nat_le count blocks_per_command
in_range (Verify from count) capacity = nat_le (from + count) capacity && nat_le count blocks_per_command
in_range (SynchronizeCache from count) capacity = nat_le (from + count) capacity
in_range (ReassignBlocks blocks) capacity = nat_le (length blocks) descriptors_at_most && not (some_past blocks capacity)
in_range other capacity = true

-- the data have the length that the command states
abbrev pub has_data : Request → DataOut → Bool
has_data (Write from count fua) sent = has_length sent (block_length * count)
has_data (WriteAndVerify from count) sent = has_length sent (block_length * count)
has_data (ModeSelect ten count) sent = has_length sent count
has_data other sent = true
