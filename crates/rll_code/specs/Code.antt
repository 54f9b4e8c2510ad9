-- The (2,7) run-length-limited code. A message is its bytes' bits, the high bit of each first, and a tail.
-- Message and channel word split from the front into the same rows of one table.
use Rattle.std.specs.Prelude.{◌≡◌, ℕ, Bool, List, [], ◌∷◌, ◌++◌, codes}
use Rattle.std.specs.List.{flat_map}
use Rattle.rll_code.specs.Bits.{bits, byte_bits}

-- the rows of the table, named by their message bits
pub data Row : Type 0 where
  row_10 : Row
  row_11 : Row
  row_000 : Row
  row_010 : Row
  row_011 : Row
  row_0010 : Row
  row_0011 : Row

-- the two sides of a row
pub record Sides : Type 0 where
  pub message : List Bool
  pub channel : List Bool

abbrev pub table : Row → Sides
table row_10 = record { message = bits (codes "10"); channel = bits (codes "0100") }
table row_11 = record { message = bits (codes "11"); channel = bits (codes "1000") }
table row_000 = record { message = bits (codes "000"); channel = bits (codes "000100") }
table row_010 = record { message = bits (codes "010"); channel = bits (codes "100100") }
table row_011 = record { message = bits (codes "011"); channel = bits (codes "001000") }
table row_0010 = record { message = bits (codes "0010"); channel = bits (codes "00100100") }
table row_0011 = record { message = bits (codes "0011"); channel = bits (codes "00001000") }

abbrev pub rows : List Row
rows = row_10 ∷ row_11 ∷ row_000 ∷ row_010 ∷ row_011 ∷ row_0010 ∷ row_0011 ∷ []

-- the message bits and the channel bits of a row
abbrev pub left_side : Row → List Bool
left_side r = (table r).message

abbrev pub right_side : Row → List Bool
right_side r = (table r).channel

-- what follows the message's own bits, so that the last row is whole
abbrev pub tail : List Bool
tail = bits (codes "011")

-- the bits of a message and the tail
abbrev pub message_bits : List ℕ → List Bool
message_bits bytes = flat_map byte_bits bytes ++ tail

-- the channel word is the code of the message
pub record IsCode (bytes : List ℕ) (channel : List Bool) : Type 0 where
  pub split : List Row
  pub left : flat_map left_side split ≡ message_bits bytes
  pub right : flat_map right_side split ≡ channel
