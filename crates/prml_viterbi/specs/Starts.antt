-- Where samples begin to differ from 0. In the clean samples of an allowed word its level changes there.
use Rattle.std.specs.Prelude.{◌≡◌, ℕ, ◌+◌, ◌*◌, ◌<◌, ◌==◌, ◌&&◌, Bool, not, List, ◌∷◌, ℤ, pos, slice_index_or}
use Rattle.std.specs.Int.{bit_at, cast_unsigned, w8}

-- the sample isn't 0, by its eight bits: the level differs from the one two places before
abbrev pub is_moved : ℤ → Bool
is_moved sample = not (cast_unsigned w8 sample == 0)

-- the sample at a place isn't 0 and the one before it is; a 0 stands before the first
abbrev pub is_start : List ℤ → ℕ → Bool
is_start samples k = is_moved (slice_index_or samples k (pos 0)) && not (is_moved (slice_index_or (pos 0 ∷ samples) k (pos 0)))

-- the bits that are 1 are those of the samples that aren't 0
abbrev pub MarksMoved : List ℤ → ℕ → Type 0
MarksMoved samples word = (k : ℕ) → k < 64 → (bit_at word k == 1) ≡ is_moved (slice_index_or samples k (pos 0))

-- a bit is 1 where that of a word is and the one before it isn't, of which one bit stands before the word
abbrev pub MarksStarts : ℕ → ℕ → ℕ → Type 0
MarksStarts word before starts = (k : ℕ) → k < 64 → (bit_at starts k == 1) ≡ ((bit_at word k == 1) && not (bit_at (2 * word + before) k == 1))
