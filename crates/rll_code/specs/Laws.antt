-- What holds of the code and of tolerant reading, whatever the message.
use Rattle.std.specs.Prelude.{◌≡◌, ℕ, ◌+◌, ◌*◌, ◌<◌, ◌≤◌, Bool, true, false, List, ◌++◌, length, replicate, slice_index_or}
use Rattle.rll_code.specs.Code.{Row, left_side, IsCode}
use Rattle.rll_code.specs.Reading.{reading, bytes_read, flags_read}

-- no side of a row begins another row's
abbrev pub IsPrefixFree : (Row → List Bool) → Type 0
IsPrefixFree side = (r s : Row) (rest : List Bool) → side r ++ rest ≡ side s → r ≡ s

-- bits that are long enough begin with a row's left side, so no left side can be added
abbrev pub LeftSidesAreComplete : Type 0
LeftSidesAreComplete = (bits : List Bool) → 4 ≤ length bits → (r : Row) × (rest : List Bool) × (left_side r ++ rest ≡ bits)

-- the word holds a 1 at this place
abbrev pub HasOneAt : List Bool → ℕ → Type 0
HasOneAt channel k = slice_index_or channel k false ≡ true

-- two 0s follow each 1
abbrev pub OnesAreFollowed : List Bool → Type 0
OnesAreFollowed channel = (k : ℕ) → HasOneAt channel k → (k + 2 < length channel) × (slice_index_or channel (k + 1) true ≡ false) × (slice_index_or channel (k + 2) true ≡ false)

-- the levels that the word makes are allowed: each equals the one before it (the word has no 1 there), or the three before
-- it are equal (no 1 in the two places before), where three equal levels stand before the first
abbrev pub HasAllowedLevels : List Bool → Type 0
HasAllowedLevels channel = (j k : ℕ) → j < k → k ≤ j + 2 → HasOneAt channel k → slice_index_or channel j false ≡ false

-- the message has no more than one code
abbrev pub HasOneCode : List ℕ → Type 0
HasOneCode bytes = (a b : List Bool) → IsCode bytes a → IsCode bytes b → a ≡ b

-- reading the message's code gives the message, and no byte flagged
pub record ReadsBack (bytes : List ℕ) (channel : List Bool) : Type 0 where
  pub bytes_back : bytes_read channel ≡ bytes
  pub none_flagged : flags_read channel ≡ replicate (length bytes) false

-- two channel bits are used up for each bit read
abbrev pub IsHalfAsLong : List Bool → Type 0
IsHalfAsLong channel = (n : ℕ) → length channel ≡ 2 * n → length (reading channel) ≡ n
