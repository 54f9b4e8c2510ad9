-- What only the drive knows, its sectors and its map: of this a history tells the form alone.
use Rattle.std.specs.Prelude.{ℕ, ◌+◌, ◌%◌, ◌==◌, ◌&&◌, ◌||◌, Bool, false, nat_lt, nat_le, min, if◌then◌else◌, List, [], ◌∷◌, length, take}
use Rattle.std.specs.Option.{option_map_or}
use Rattle.sense_data.specs.declared.sense.Sense.{Sense}
use Rattle.cdb_reader.specs.Fields.{two_bytes}

-- the first two bytes of READ DEFECT DATA as far as the allocation length goes: a zero; bit 4 for the primary list, bit 3 for
-- the grown list, and format 5 (SBC-3, READ DEFECT DATA (10) command)
abbrev pub defect_heading : Bool → Bool → ℕ → List ℕ
defect_heading primary grown allocation = take allocation (0 ∷ ((if primary then 16 else 0) + (if grown then 8 else 0) + 5) ∷ [])

-- the length in bytes 2 and 3, where it is there, is that of whole addresses, and so many bytes follow as far as the
-- allocation length goes
abbrev pub has_defect_length : ℕ → List ℕ → Bool
has_defect_length allocation bytes =
    if nat_lt (length bytes) 4 then length bytes == allocation else
    (two_bytes bytes 2 % 8 == 0 && length bytes == min allocation (4 + two_bytes bytes 2))

-- the additional sense codes of a block that was recovered, by the stage that found it and by whether it was moved then:
-- RECOVERED DATA WITH RETRIES, .. WITH POSITIVE HEAD OFFSET, .. WITH NEGATIVE HEAD OFFSET, RECOVERED DATA WITH ERROR
-- CORRECTION AND RETRIES APPLIED, .. DATA AUTO-REALLOCATED, .. RECOMMEND REASSIGNMENT (SPC-4, additional sense codes)
abbrev pub is_recovery_code : ℕ → ℕ → Bool
is_recovery_code asc ascq =
    (asc == 0x17 && (ascq == 0x01 || ascq == 0x02 || ascq == 0x03)) || (asc == 0x18 && (ascq == 0x01 || ascq == 0x02 || ascq == 0x05))

-- sense data tell RECOVERED ERROR at a block of a range, by one of these codes
abbrev pub tells_recovery : ℕ → ℕ → Sense → Bool
tells_recovery from end sense =
    sense.key == 1 && sense.specific == 0 && is_recovery_code sense.asc sense.ascq
    && option_map_or (λ b. nat_le from b && nat_lt b end) sense.information false
