-- Words of levels -1 and +1, the channel bits that flip them, and the samples that a clean read gives.
use Rattle.std.specs.Prelude.{◌≡◌, ◌⊎◌, ℕ, suc, ◌<◌, Bool, true, false, not, List, [], ◌∷◌, map, length, ℤ, pos, negsuc, ◌-ℤ◌, ◌*ℤ◌, slice_index_or}
use Rattle.std.specs.List.{All, range_with_len}

-- +1 or -1
abbrev pub IsLevel : ℤ → Type 0
IsLevel a = (a ≡ pos 1) ⊎ (a ≡ negsuc 0)

-- a word of levels
abbrev pub AreLevels : List ℤ → Type 0
AreLevels word = All IsLevel word

-- the level for high and for low
abbrev pub level_for : Bool → ℤ
level_for true = pos 1
level_for false = negsuc 0

-- whether a level is the high one
abbrev pub is_high : ℤ → Bool
is_high (pos n) = true
is_high (negsuc n) = false

-- what a channel bit leaves of a level that was high or low: a bit 1 flips it
abbrev pub flip : Bool → Bool → Bool
flip true high = not high
flip false high = high

-- the levels that channel bits give after a high or a low one
abbrev pub levels_after : Bool → List Bool → List ℤ
levels_after high [] = []
levels_after high (bit ∷ bits) = level_for (flip bit high) ∷ levels_after (flip bit high) bits

-- the level word of channel bits, +1 standing before the first
abbrev pub level_word : List Bool → List ℤ
level_word bits = levels_after true bits

-- the channel bits of levels that come after a high or a low one: 1 where the level changes
abbrev pub bits_after : Bool → List ℤ → List Bool
bits_after high [] = []
bits_after high (a ∷ word) = flip high (is_high a) ∷ bits_after (is_high a) word

-- the channel bits of a level word, +1 standing before the first level
abbrev pub channel_bits : List ℤ → List Bool
channel_bits word = bits_after true word

-- the level k places on from the first of the three levels +1 that stand before the word: the
-- word's own place k is place k + 3 here
abbrev pub level_at : List ℤ → ℕ → ℤ
level_at word k = slice_index_or (pos 1 ∷ pos 1 ∷ pos 1 ∷ word) k (pos 1)

-- the level at place k is the one before it, or the three before it are equal
abbrev pub KeepsRuns : List ℤ → ℕ → Type 0
KeepsRuns word k = (level_at word (suc (suc (suc k))) ≡ level_at word (suc (suc k)))
    ⊎ ((level_at word (suc (suc k)) ≡ level_at word (suc k)) × (level_at word (suc k) ≡ level_at word k))

-- a word whose runs, but for the last, have at least three levels, those that stand before it counted
pub record IsAllowed (word : List ℤ) : Type 0 where
  pub levels : AreLevels word
  pub runs : (k : ℕ) → k < length word → KeepsRuns word k

-- the clean sample at place k: 16 times what the level differs from the one two places before
abbrev pub clean_at : List ℤ → ℕ → ℤ
clean_at word k = pos 16 *ℤ (level_at word (suc (suc (suc k))) -ℤ level_at word (suc k))

-- the clean samples of a word
abbrev pub clean_samples : List ℤ → List ℤ
clean_samples word = map (clean_at word) (range_with_len 0 (length word))

-- channel bits and level words say each other
pub record InvertEachOther : Type 0 where
  pub bits : (bits : List Bool) → channel_bits (level_word bits) ≡ bits
  pub levels : (word : List ℤ) → AreLevels word → level_word (channel_bits word) ≡ word
  pub words : (bits : List Bool) → AreLevels (level_word bits)

-- after each channel bit 1 the next two, if there are as many, are 0
abbrev pub AreSpaced : List Bool → Type 0
AreSpaced bits = (k : ℕ) → slice_index_or bits k false ≡ true
    → (slice_index_or bits (suc k) false ≡ false) × (slice_index_or bits (suc (suc k)) false ≡ false)

-- channel bits with two 0s after each 1 give an allowed word
abbrev pub SpacedGiveAllowed : Type 0
SpacedGiveAllowed = (bits : List Bool) → AreSpaced bits → IsAllowed (level_word bits)
