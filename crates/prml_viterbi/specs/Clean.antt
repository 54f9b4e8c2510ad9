-- Words that are told by their clean samples, place by place.
use Rattle.std.specs.Prelude.{◌≡◌, ◌⊎◌, ℕ, suc, ◌<◌, List, length, ℤ, pos, ◌-ℤ◌, ◌*ℤ◌, slice_index_or}
use Rattle.prml_viterbi.specs.Levels.{IsLevel, level_at}

-- a level that may come after three others, the nearest first, and has this clean sample
pub record Follows (sample level one two three : ℤ) : Type 0 where
  pub is_level : IsLevel level
  pub run : (level ≡ one) ⊎ ((one ≡ two) × (two ≡ three))
  pub clean : sample ≡ pos 16 *ℤ (level -ℤ two)

-- the word's level at place k follows those before it, and the sample there is clean
abbrev pub IsCleanAt : List ℤ → List ℤ → ℕ → Type 0
IsCleanAt samples word k =
    Follows (slice_index_or samples k (pos 0)) (level_at word (suc (suc (suc k)))) (level_at word (suc (suc k))) (level_at word (suc k)) (level_at word k)

-- the word is allowed, and the samples are its clean ones
abbrev pub AreClean : List ℤ → List ℤ → Type 0
AreClean samples word = (k : ℕ) → k < length samples → IsCleanAt samples word k

-- the first k levels written are the word's, and its two levels before place k are remembered
pub record Rebuilt (word out : List ℤ) (two one : ℤ) (k : ℕ) : Type 0 where
  pub two_is : two ≡ level_at word (suc k)
  pub one_is : one ≡ level_at word (suc (suc k))
  pub levels : (j : ℕ) → j < k → slice_index_or out j (pos 1) ≡ slice_index_or word j (pos 1)

-- each word that has these clean samples is what is written so far
abbrev pub AreRebuilt : List ℤ → List ℤ → ℤ → ℤ → ℕ → Type 0
AreRebuilt samples out two one k = (word : List ℤ) → length word ≡ length samples → AreClean samples word → Rebuilt word out two one k
