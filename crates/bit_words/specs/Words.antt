-- Words of 64 bits as a list of bits: bit k of the list is bit k mod 64 of word k div 64.
use Rattle.std.specs.Prelude.{◌≡◌, ℕ, zero, suc, ◌*◌, ◌/◌, ◌%◌, ◌<◌, ◌==◌, Bool, false, List, [], ◌∷◌, length, slice_index, slice_index_or}
use Rattle.std.specs.Int.{bit_at}
use Rattle.std.specs.List.{flat_map}

-- the lowest so many bits of a number, the lowest first
unfoldable pub first_bits : ℕ → ℕ → List Bool
first_bits zero n = []
first_bits (suc k) n = (n % 2 == 1) ∷ first_bits k (n / 2)

-- the bits of words, the first word's first
abbrev pub word_bits : List ℕ → List Bool
word_bits words = flat_map (first_bits 64) words

-- each bit of the list is one of a word's
abbrev pub HaveBitsInOrder : List ℕ → Type 0
HaveBitsInOrder words = (k : ℕ) → k < 64 * length words
    → slice_index_or (word_bits words) k false ≡ (bit_at (slice_index words (k / 64)) (k % 64) == 1)
