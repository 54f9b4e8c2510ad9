-- What a report leaves out of a finding of the background scan.
use Rattle.std.specs.Prelude.{ℕ, ◌==◌, if◌then◌else◌, [], Option, Some, None}
use Rattle.disk_base.specs.declared.address.Lba.{Lba}
use Rattle.scan_log.specs.declared.finding.Finding.{Finding}
use Rattle.block_machine.specs.declared.entry.Entry.{Entry}
use Rattle.block_machine.specs.Scan.{scan_after}

-- the minutes since the power came on, after an entry
abbrev pub minutes_after : ℕ → Entry → ℕ
minutes_after minutes e = (scan_after (record { minutes = minutes; scanned = 0; findings = [] }) e).minutes

-- a finding by the minutes, its reassign status and its block: 1 where no stage found the block (UNRECOVERED READ ERROR), 2 where
-- it was moved with valid data, 4 where there was no spare for it (RECOVERED DATA, SBC-3, background scan)
abbrev pub finding_of : ℕ → ℕ → Lba → Option Finding
finding_of minutes status b =
    if status == 1 then Some (record { minutes = minutes; status = 1; key = 3; asc = 0x11; ascq = 0; b = b }) else
    if status == 2 then Some (record { minutes = minutes; status = 2; key = 1; asc = 0x18; ascq = 2; b = b }) else
    if status == 4 then Some (record { minutes = minutes; status = 4; key = 1; asc = 0x18; ascq = 5; b = b }) else None
