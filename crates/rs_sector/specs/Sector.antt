-- A sector's bytes in four interleaves: byte i belongs to word i % 4, at place i / 4.
use Rattle.std.specs.Prelude.{ℕ, ◌+◌, ◌*◌, ◌/◌, ◌%◌, List, [], slice_index, slice_index_or, map}
use Rattle.std.specs.List.{range_with_len}

-- word i of n bytes each: the bytes i, i + 4, i + 8, ..
unfoldable pub word_of : ℕ → List ℕ → ℕ → List ℕ
word_of n bytes i = map (λ k. slice_index bytes (4 * k + i)) (range_with_len 0 n)

-- the four words of n bytes each
unfoldable pub words_of : ℕ → List ℕ → List (List ℕ)
words_of n bytes = map (word_of n bytes) (range_with_len 0 4)

-- the bytes of four words of n bytes each
unfoldable pub bytes_of : ℕ → List (List ℕ) → List ℕ
bytes_of n words = map (λ i. slice_index (slice_index_or words (i % 4) []) (i / 4)) (range_with_len 0 (4 * n))
