-- What the coder's tables say of a state and eight bits: whatever comes after them, this much is settled.
use Rattle.std.specs.Prelude.{◌≡◌, ℕ, ◌+◌, ◌*◌, ◌/◌, ◌%◌, ◌^◌, ◌<◌, Bool, List, [], ◌∷◌, ◌++◌, map, length, take, slice_index_or, codes}
use Rattle.std.specs.List.{flat_map}
use Rattle.rll_code.specs.Bits.{bits, byte_bits, low_bits, number}
use Rattle.rll_code.specs.Code.{Row, left_side, right_side, tail}
use Rattle.rll_code.specs.Reading.{BitRead, reading, byte_of, is_flagged}

-- a state is where its entries begin in the tables, 256 for each of so many states
abbrev pub IsState : ℕ → ℕ → Type 0
IsState count state = (state / 256 < count) × (state % 256 ≡ 0)

-- the message bits that wait in each state of the encoder: the beginnings of left sides
abbrev pub left_beginnings : List (List Bool)
left_beginnings = [] ∷ bits (codes "0") ∷ bits (codes "1") ∷ bits (codes "00") ∷ bits (codes "01") ∷ bits (codes "001") ∷ []

abbrev pub bits_waiting : ℕ → List Bool
bits_waiting state = slice_index_or left_beginnings (state / 256) []

-- the channel bits that wait in each state of the decoder: the beginnings of right sides of an even length
abbrev pub right_beginnings : List (List Bool)
right_beginnings = [] ∷ bits (codes "00") ∷ bits (codes "01") ∷ bits (codes "10") ∷ bits (codes "0000") ∷ bits (codes "0001") ∷ bits (codes "0010") ∷ bits (codes "1001") ∷ bits (codes "000010") ∷ bits (codes "001001") ∷ []

abbrev pub channel_waiting : ℕ → List Bool
channel_waiting state = slice_index_or right_beginnings (state / 256) []

-- how many message bits the waiting channel bits stand for
abbrev pub places_waiting : ℕ → ℕ
places_waiting state = length (channel_waiting state) / 2

-- the word begins with the right sides of the rows
abbrev pub BeginsWith : ℕ → List Row → Type 0
BeginsWith word split = take (length (flat_map right_side split)) (low_bits 24 word) ≡ flat_map right_side split

-- the bits that wait and a byte are whole rows, written at the word's beginning, and the bits that wait next
pub record Advances (state byte word next : ℕ) : Type 0 where
  pub whole : List Row
  pub left : flat_map left_side whole ++ bits_waiting next ≡ bits_waiting state ++ byte_bits byte
  pub right : BeginsWith word whole
  pub known : IsState 6 next

-- the bits that wait and the tail are whole rows, written at the word's beginning
pub record Finishes (state word : ℕ) : Type 0 where
  pub whole : List Row
  pub left : flat_map left_side whole ≡ bits_waiting state ++ tail
  pub right : BeginsWith word whole

-- the number spelled by a bit of each bit read, above a place for each bit that waits
abbrev pub spelled : (BitRead → Bool) → List BitRead → ℕ → ℕ
spelled part given state = number (map part given) * 2 ^ places_waiting state

-- the channel bits that wait and eight more give these bits and flags, whatever follows, and channel bits that wait next
pub record Settles (state : ℕ) (channel : List Bool) (bits flags next : ℕ) : Type 0 where
  pub given : List BitRead
  pub reads : (more : List Bool) → reading (channel_waiting state ++ (channel ++ more)) ≡ given ++ reading (channel_waiting next ++ more)
  pub places : length given + places_waiting next ≡ 4 + places_waiting state
  pub bits_given : bits ≡ spelled (λ b. b.bit) given next
  pub flags_given : flags ≡ spelled (λ b. b.flagged) given next
  pub known : IsState 10 next

-- bits read that fill no byte yet, and which of them are flagged, as numbers: the bits that wait in the state fill them up to three
pub record Keeps (kept : List BitRead) (state bits marks : ℕ) : Type 0 where
  pub places : length kept + places_waiting state ≡ 3
  pub bits_kept : bits ≡ spelled (λ b. b.bit) kept state
  pub marks_kept : marks ≡ spelled (λ b. b.flagged) kept state
  pub known : IsState 10 state

-- bits that are kept and sixteen channel bits give a byte and whether it is flagged, whatever follows, and bits to keep
pub record Reads (kept : List BitRead) (state : ℕ) (channel : List Bool) (byte : ℕ) (flagged : Bool) (next bits marks : ℕ) : Type 0 where
  pub eight : List BitRead
  pub rest : List BitRead
  pub long : length eight ≡ 8
  pub given : (more : List Bool) → kept ++ reading (channel_waiting state ++ (channel ++ more)) ≡ eight ++ (rest ++ reading (channel_waiting next ++ more))
  pub byte_given : byte ≡ byte_of eight
  pub flag_given : flagged ≡ is_flagged eight
  pub keeps : Keeps rest next bits marks
