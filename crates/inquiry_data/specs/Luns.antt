-- Which logical units there are (SPC-4, REPORT LUNS command).
use Rattle.std.specs.Prelude.{ℕ, ◌==◌, if◌then◌else◌, length, List, [], ◌++◌, Option, Some, None, replicate}
use Rattle.std.specs.Int.{w32, to_be_bytes}

-- a LUN list with LUNs as bytes: LUN LIST LENGTH, four reserved bytes, the LUNs
abbrev pub lun_list : List ℕ → List ℕ
lun_list luns = to_be_bytes w32 (length luns) ++ (replicate 4 0 ++ luns)

-- LUN 0, the only logical unit
abbrev pub lun_zero : List ℕ
lun_zero = replicate 8 0

-- the list for a SELECT REPORT field: LUN 0 is no well known logical unit, so it stands in 00h and 02h (all of them),
-- and 01h, the well known ones, is empty; none where the field is refused
abbrev pub reported_luns : ℕ → Option (List ℕ)
reported_luns select =
    if select == 0x00 then Some (lun_list lun_zero) else
    if select == 0x01 then Some (lun_list []) else
    if select == 0x02 then Some (lun_list lun_zero) else
    None
