-- The word that a detector is to find in samples.
use Rattle.std.specs.Prelude.{◌≡◌, ◌↔◌, ◌⊎◌, ℕ, zero, suc, ◌+◌, ◌*◌, ◌<◌, Bool, List, length, ℤ, pos, negsuc, ◌-ℤ◌, unsigned_abs, slice_index_or}
use Rattle.prml_viterbi.specs.Levels.{IsAllowed, channel_bits, clean_at, clean_samples}

abbrev pub square : ℤ → ℕ
square x = unsigned_abs x * unsigned_abs x

-- the sum, over the first n places, of the squares of what the word's clean samples differ from the samples
abbrev pub distance_below : List ℤ → List ℤ → ℕ → ℕ
distance_below samples word zero = 0
distance_below samples word (suc n) =
    distance_below samples word n + square (clean_at word n -ℤ slice_index_or samples n (pos 0))

-- the sum over all places
abbrev pub distance : List ℤ → List ℤ → ℕ
distance samples word = distance_below samples word (length samples)

-- of two words as long, one has -1 and the other +1 at the last place where they differ
pub record ComesBefore (word other : List ℤ) : Type 0 where
  pub place : ℕ
  pub inside : place < length word
  pub low : slice_index_or word place (pos 1) ≡ negsuc 0
  pub high : slice_index_or other place (pos 1) ≡ pos 1
  pub same_after : (k : ℕ) → place < k → slice_index_or word k (pos 1) ≡ slice_index_or other k (pos 1)

-- a word is nearer to the samples than another, or as near and before it
abbrev pub IsBetter : List ℤ → List ℤ → List ℤ → Type 0
IsBetter samples word other = (distance samples word < distance samples other)
    ⊎ ((distance samples word ≡ distance samples other) × ComesBefore word other)

-- the allowed word of the samples' length that is better than every other
pub record IsDetected (samples word : List ℤ) : Type 0 where
  pub allowed : IsAllowed word
  pub long : length word ≡ length samples
  pub least : (other : List ℤ) → IsAllowed other → length other ≡ length samples → (other ≡ word) ⊎ IsBetter samples word other

-- samples have one detected word
abbrev pub IsUnique : Type 0
IsUnique = (samples word other : List ℤ) → IsDetected samples word → IsDetected samples other → word ≡ other

-- an allowed word is the detected word of its clean samples
abbrev pub CleanSamplesTell : Type 0
CleanSamplesTell = (word : List ℤ) → IsAllowed word → IsDetected (clean_samples word) word

-- a word is at distance 0 from as many samples exactly where they are its clean ones, and no other word has the same
pub record CleanSamplesHaveOneWord : Type 0 where
  pub none_apart : (samples word : List ℤ) → length word ≡ length samples → (distance samples word ≡ 0) ↔ (samples ≡ clean_samples word)
  pub one : (word other : List ℤ) → clean_samples word ≡ clean_samples other → word ≡ other

-- an allowed word has these clean samples
abbrev pub AreOfAllowed : List ℤ → Type 0
AreOfAllowed samples = (word : List ℤ) × IsAllowed word × (samples ≡ clean_samples word)

-- these are the channel bits of the word that is detected in the samples
abbrev pub HaveDetectedBits : List ℤ → List Bool → Type 0
HaveDetectedBits samples bits = (word : List ℤ) × IsDetected samples word × (channel_bits word ≡ bits)
