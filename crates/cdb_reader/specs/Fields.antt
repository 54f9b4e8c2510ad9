-- Fields of command blocks and parameter lists: bits, and numbers with the high byte first (SPC-4, bit and byte ordering).
-- What lies past the end is 0.
use Rattle.std.specs.Prelude.{ℕ, ◌+◌, ◌-◌, ◌/◌, ◌%◌, ◌^◌, ◌==◌, Bool, List, [], ◌∷◌, length, slice_index}
use Rattle.std.specs.Int.{w16, w32, w64, from_be_bytes}

-- a bit of a byte, the lowest one being 0
abbrev pub bit : List ℕ → ℕ → ℕ → Bool
bit bs i k = slice_index bs i / 2 ^ k % 2 == 1

-- two bytes from a place on as a number
abbrev pub two_bytes : List ℕ → ℕ → ℕ
two_bytes bs i = from_be_bytes w16 (slice_index bs i ∷ slice_index bs (i + 1) ∷ [])

-- four bytes from a place on as a number
abbrev pub four_bytes : List ℕ → ℕ → ℕ
four_bytes bs i =
    from_be_bytes w32 (slice_index bs i ∷ slice_index bs (i + 1) ∷ slice_index bs (i + 2) ∷ slice_index bs (i + 3) ∷ [])

-- eight bytes from a place on as a number
abbrev pub eight_bytes : List ℕ → ℕ → ℕ
eight_bytes bs i = from_be_bytes w64 (slice_index bs i ∷ slice_index bs (i + 1) ∷ slice_index bs (i + 2) ∷ slice_index bs (i + 3)
    ∷ slice_index bs (i + 4) ∷ slice_index bs (i + 5) ∷ slice_index bs (i + 6) ∷ slice_index bs (i + 7) ∷ [])

-- the control byte's bit NACA; the control byte is the last (SAM-4, CONTROL byte)
abbrev pub naca : List ℕ → Bool
naca bs = bit bs (length bs - 1) 2

-- the group of the operation code: 0 has command blocks of 6 bytes, 1 and 2 of 10, 4 of 16, 5 of 12
abbrev pub group : List ℕ → ℕ
group bs = slice_index bs 0 / 32

-- the command block has 16 bytes
abbrev pub is_sixteen : List ℕ → Bool
is_sixteen bs = group bs == 4

-- the command block is the 10-byte form of a command that has a 6-byte form too
abbrev pub is_ten : List ℕ → Bool
is_ten bs = group bs == 2
