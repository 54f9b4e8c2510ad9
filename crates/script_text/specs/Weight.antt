-- What the lines of a script weigh, which bounds how many turns it takes.
use Rattle.std.specs.Prelude.{ℕ, ◌+◌, ◌*◌, ◌/◌, ◌==◌, ◌||◌, nat_le, if◌then◌else◌, List, length, slice_index}
use Rattle.disk_base.specs.declared.command.DataOut.{DataOut}
use Rattle.disk_base.specs.declared.command.DataOut.TheVariants.{Nothing, Fill, Given}
use Rattle.platter_model.specs.declared.world.World.{World as Event}
use Rattle.platter_model.specs.declared.world.World.TheVariants.{Damage, Fault, Cut, Arm, Power, Minutes}
use Rattle.script_text.specs.declared.script.Line.{Line}
use Rattle.script_text.specs.declared.script.Line.TheVariants.{Command, Function, Scan, Destage, Go, World}

-- blocks that a command names; a command that names more than 256 is refused, and weighs nothing
abbrev pub weight_of_blocks : ℕ → ℕ
weight_of_blocks n = if nat_le n 256 then n else 0

-- the transfer length of a command block of 10 bytes (SBC-3, READ (10) command)
abbrev pub short_length : List ℕ → ℕ
short_length cdb = slice_index cdb 7 * 256 + slice_index cdb 8

-- the transfer length of a command block of 16 bytes (SBC-3, READ (16) command)
abbrev pub long_length : List ℕ → ℕ
long_length cdb =
    ((slice_index cdb 10 * 256 + slice_index cdb 11) * 256 + slice_index cdb 12) * 256 + slice_index cdb 13

-- the addresses that data have room for; a fill names none
abbrev pub weight_of_data : DataOut → ℕ
weight_of_data Nothing = 0
weight_of_data (Fill byte) = 0
weight_of_data (Given bytes) = length bytes / 4

-- READ, WRITE, WRITE AND VERIFY and VERIFY weigh their blocks, SYNCHRONIZE CACHE 64, REASSIGN BLOCKS its addresses and
-- FORMAT UNIT the blocks of the drive
abbrev pub weight_of_command : ℕ → List ℕ → DataOut → ℕ
weight_of_command capacity cdb sent = let code = slice_index cdb 0 in
    if code == 0x28 || (code == 0x2A || (code == 0x2E || code == 0x2F)) then weight_of_blocks (short_length cdb) else
    if code == 0x88 || code == 0x8A then weight_of_blocks (long_length cdb) else
    if code == 0x35 || code == 0x91 then 64 else
    if code == 0x07 then weight_of_data sent else
    if code == 0x04 then capacity else 0

-- power on weighs 64, since it recovers the map
abbrev pub weight_of_event : Event → ℕ
weight_of_event (Damage d) = 0
weight_of_event (Fault p) = 0
weight_of_event Cut = 0
weight_of_event (Arm k tear) = 0
weight_of_event Power = 64
weight_of_event (Minutes n) = 0

-- what a line weighs, on a drive of this capacity
abbrev pub weight_of : ℕ → Line → ℕ
weight_of capacity (Command i t a cdb sent) = weight_of_command capacity cdb sent
weight_of capacity (Function i what) = 0
weight_of capacity (Scan n) = n
weight_of capacity (Destage n) = n
weight_of capacity Go = 0
weight_of capacity (World event) = weight_of_event event
