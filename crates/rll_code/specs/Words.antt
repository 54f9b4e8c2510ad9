-- The code in words of 64 channel bits, and what the tables for it say.
use Rattle.std.specs.Prelude.{◌≡◌, ℕ, ◌+◌, ◌-◌, ◌*◌, ◌^◌, Bool, false, List, ◌++◌, length, replicate}
use Rattle.std.specs.List.{flat_map}
use Rattle.std.specs.Simd.Lanes.{mask_l}
use Rattle.bit_words.specs.Words.{first_bits, word_bits}
use Rattle.rll_code.specs.Code.{Row, left_side, right_side, IsCode}
use Rattle.rll_code.specs.Steps.{IsState, bits_waiting}

-- the words hold the code of the message, and 0s behind its last six bits
pub record HoldCode (bytes words : List ℕ) : Type 0 where
  pub channel : List Bool
  pub coded : IsCode bytes channel
  pub held : word_bits words ≡ channel ++ replicate 58 false

-- channel bits as a number, the first the lowest, above six places less two for each message bit that waits
abbrev pub placed_number : ℕ → List Bool → ℕ
placed_number waiting channel = mask_l channel * 2 ^ (6 - 2 * waiting)

-- the bits that wait and more are whole rows, whose channel bits are this number, and the bits that wait next
pub record Places (state : ℕ) (more : List Bool) (placed next : ℕ) : Type 0 where
  pub whole : List Row
  pub left : flat_map left_side whole ++ bits_waiting next ≡ bits_waiting state ++ more
  pub right : placed ≡ placed_number (length (bits_waiting state)) (flat_map right_side whole)
  pub known : IsState 6 next

-- the rows that are whole so far: sixteen 0s and their channel bits are those that are written and those that are carried,
-- as many as there is room for, less two for each message bit that waits
pub record Carries (message written : List Bool) (room state carry : ℕ) : Type 0 where
  pub whole : List Row
  pub kept : List Bool
  pub left : flat_map left_side whole ++ bits_waiting state ≡ message
  pub right : replicate 16 false ++ flat_map right_side whole ≡ written ++ kept
  pub carried : carry ≡ mask_l kept
  pub fills : length kept + 2 * length (bits_waiting state) ≡ room
  pub known : IsState 6 state

-- whatever came before, with more message bits so many bits of a number are written
abbrev pub GoesOn : ℕ → ℕ → List Bool → ℕ → ℕ → ℕ → ℕ → Type 0
GoesOn state carry more count number next next_carry =
    (message written : List Bool) → Carries message written 16 state carry → Carries (message ++ more) (written ++ first_bits count number) 16 next next_carry
