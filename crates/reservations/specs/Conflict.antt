-- Which commands of others a reservation keeps out. The table of commands is this project's own.
use Rattle.std.specs.Prelude.{ℕ, ◌==◌, ◌&&◌, ◌||◌, Bool, not, [], ◌∷◌}
use Rattle.std.specs.List.{list_any}
use Rattle.reservations.specs.Desk.{is_for_registrants, is_exclusive_access}

-- MODE SENSE of 6 and 10, READ of 10 and 16, VERIFY of 10, READ DEFECT DATA of 10
abbrev pub is_reading : ℕ → Bool
is_reading code = list_any (λ c. c == code) (0x1A ∷ 0x28 ∷ 0x2F ∷ 0x37 ∷ 0x5A ∷ 0x88 ∷ [])

-- FORMAT UNIT, REASSIGN BLOCKS, MODE SELECT of 6 and 10, WRITE of 10 and 16, WRITE AND VERIFY of 10, SYNCHRONIZE CACHE of 10 and 16
abbrev pub is_writing : ℕ → Bool
is_writing code = list_any (λ c. c == code) (0x04 ∷ 0x07 ∷ 0x15 ∷ 0x2A ∷ 0x2E ∷ 0x35 ∷ 0x55 ∷ 0x8A ∷ 0x91 ∷ [])

-- whether a reservation of this type keeps out a command of another than its holder, by whether that one is registered
abbrev pub conflicts : ℕ → ℕ → Bool → Bool
conflicts code kind registered =
    (is_writing code || (is_reading code && is_exclusive_access kind)) && not (is_for_registrants kind && registered)
