-- Tolerant reading of channel bits, from the front: each of them is used up, whatever they are.
use Rattle.std.specs.Prelude.{ℕ, zero, suc, ◌-◌, Bool, true, false, List, [], ◌∷◌, ◌++◌, map, length, find, Option}
use Rattle.std.specs.List.{starts_with, list_any}
use Rattle.std.specs.Option.{option_map_or}
use Rattle.rll_code.specs.Bits.{same, number, octets}
use Rattle.rll_code.specs.Code.{Row, rows, left_side, right_side}

-- a bit that was read; it is flagged where no right side gave it
pub record BitRead : Type 0 where
  pub bit : Bool
  pub flagged : Bool

abbrev pub sure : Bool → BitRead
sure b = record { bit = b; flagged = false }

abbrev pub unread : BitRead
unread = record { bit = false; flagged = true }

-- the row whose right side begins the channel bits, there in full
abbrev pub row_at : List Bool → Option Row
row_at channel = find (λ r. starts_with same channel (right_side r)) rows

-- what the front gives: the bits of that row, or one flagged 0
abbrev pub front_bits : List Bool → List BitRead
front_bits channel = option_map_or (λ r. map sure (left_side r)) (row_at channel) (unread ∷ [])

-- how many channel bits that uses up
abbrev pub front_length : List Bool → ℕ
front_length channel = option_map_or (λ r. length (right_side r)) (row_at channel) 2

-- the bits read from channel bits of which the first `used` are used up
unfoldable pub reading_after : ℕ → List Bool → List BitRead
reading_after used [] = []
reading_after (suc used) (c ∷ rest) = reading_after used rest
reading_after zero (c ∷ rest) =
    front_bits (c ∷ rest) ++ reading_after (front_length (c ∷ rest) - 1) rest

abbrev pub reading : List Bool → List BitRead
reading channel = reading_after 0 channel

-- the number that bits read spell, and whether one of them is flagged
abbrev pub byte_of : List BitRead → ℕ
byte_of read = number (map (λ b. b.bit) read)

abbrev pub is_flagged : List BitRead → Bool
is_flagged read = list_any (λ b. b.flagged) read

-- the bytes read, and which of them are flagged; the last bits, which fill no byte, are dropped
abbrev pub bytes_read : List Bool → List ℕ
bytes_read channel = map byte_of (octets (reading channel))

abbrev pub flags_read : List Bool → List Bool
flags_read channel = map is_flagged (octets (reading channel))
