-- Levels as bits of a number, a bit 1 for the low one, and the samples by them.
use Rattle.std.specs.Prelude.{◌≡◌, ℕ, ◌+◌, ◌*◌, ◌%◌, ◌<◌, ◌==◌, List, map, ℤ, pos, ◌-ℤ◌, ◌*ℤ◌, slice_index_or}
use Rattle.std.specs.Int.{bit_at}
use Rattle.std.specs.List.{range_with_len}
use Rattle.prml_viterbi.specs.Levels.{level_for}

-- the level at a place of a number
abbrev pub level_by : ℕ → ℕ → ℤ
level_by levels k = level_for (bit_at levels k == 0)

-- the clean sample of a place by levels of which the first two stand before the first place
abbrev pub sample_by : ℕ → ℕ → ℤ
sample_by levels k = pos 16 *ℤ (level_by levels (k + 2) -ℤ level_by levels k)

abbrev pub eight_samples : ℕ → List ℤ
eight_samples levels = map (sample_by levels) (range_with_len 0 8)

-- 64 levels behind two: each is the one before it, flipped where the channel bit is 1
abbrev pub GiveLevels : ℕ → ℕ → ℕ → Type 0
GiveLevels word before levels = (k : ℕ) → k < 64
    → bit_at (4 * levels + before) (k + 2) ≡ (bit_at word k + bit_at (4 * levels + before) (k + 1)) % 2

-- each 1 of a word has two 0s before it, of which two bits stand before the word
abbrev pub IsApart : ℕ → ℕ → Type 0
IsApart word before = (k : ℕ) → k < 64 → bit_at word k ≡ 1
    → (bit_at (4 * word + before) (k + 1) ≡ 0) × (bit_at (4 * word + before) k ≡ 0)

-- so many samples are the clean ones of levels of which the first two stand before the first place
abbrev pub AreSamplesBy : List ℤ → ℕ → ℕ → Type 0
AreSamplesBy samples levels count = (k : ℕ) → k < count → slice_index_or samples k (pos 0) ≡ sample_by levels k
