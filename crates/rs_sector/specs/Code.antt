-- The Reed-Solomon code: words of 148 bytes, of which the first 132 are data, that are zero at 2^0 to 2^15.
use Rattle.std.specs.Prelude.{◌≡◌, ℕ, zero, suc, ◌+◌, ◌-◌, ◌<◌, Bool, not, ◌==◌, if◌then◌else◌, List, [], length, slice_index, slice_index_or, take, map}
use Rattle.std.specs.List.{range_with_len}
use Rattle.rs_sector.specs.Field.{field_product, power, sum_below}

-- the value at y of the polynomial in which byte k of the word is the coefficient of x^(length - 1 - k)
unfoldable pub value_at : ℕ → List ℕ → ℕ
value_at y word = sum_below (λ k. field_product (slice_index word k) (power y (length word - 1 - k))) (length word)

-- the number that place k of a word stands for
abbrev pub point : ℕ → ℕ
point k = power 2 (147 - k)

-- each number of the list is a byte
abbrev pub AreBytes : List ℕ → Type 0
AreBytes bytes = (k : ℕ) → slice_index bytes k < 256

-- 148 bytes whose polynomial is zero at 2^0 to 2^15
pub record IsCodeword (word : List ℕ) : Type 0 where
  pub long : length word ≡ 148
  pub bytes : AreBytes word
  pub zeros : (j : ℕ) → j < 16 → value_at (power 2 j) word ≡ 0

-- each of the four words is a codeword
abbrev pub AllAreCodewords : List (List ℕ) → Type 0
AllAreCodewords words = (i : ℕ) → i < 4 → IsCodeword (slice_index_or words i [])

-- the word is a codeword, and its first 132 bytes are the data
pub record Encodes (plain word : List ℕ) : Type 0 where
  pub codeword : IsCodeword word
  pub plain_first : take 132 word ≡ plain

-- each of the four words encodes its data
abbrev pub AllEncode : List (List ℕ) → List (List ℕ) → Type 0
AllEncode plain words = (i : ℕ) → i < 4 → Encodes (slice_index_or plain i []) (slice_index_or words i [])

-- the values of a word's polynomial at 2^0 to 2^15
unfoldable pub syndromes_of : List ℕ → List ℕ
syndromes_of word = map (λ j. value_at (power 2 j) word) (range_with_len 0 16)

-- how many numbers below n pass the test
unfoldable pub count_below : (ℕ → Bool) → ℕ → ℕ
count_below test zero = 0
count_below test (suc n) = count_below test n + (if test n then 1 else 0)

-- the words differ at place k
abbrev pub differs_at : List ℕ → List ℕ → ℕ → Bool
differs_at a b k = not (slice_index a k == slice_index b k)

-- in how many of the 148 places two words differ
abbrev pub differing : List ℕ → List ℕ → ℕ
differing a b = count_below (differs_at a b) 148
