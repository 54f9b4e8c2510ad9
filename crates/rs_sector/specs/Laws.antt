-- The laws of the code and of the numbering.
use Rattle.std.specs.Prelude.{◌≡◌, ℕ, ◌*◌, ◌<◌, ◌≤◌, Bool, List, [], length, slice_index_or, take}
use Rattle.rs_sector.specs.Code.{IsCodeword, differing}
use Rattle.rs_sector.specs.Decoding.{IsNear, IsNearErased}
use Rattle.rs_sector.specs.Sector.{words_of, bytes_of}

-- two codewords that differ in at most 16 places are equal
abbrev pub AreFarApart : Type 0
AreFarApart = (a b : List ℕ) → IsCodeword a → IsCodeword b → differing a b ≤ 16 → a ≡ b

-- two codewords with the same data are equal
abbrev pub HaveOneEncoding : Type 0
HaveOneEncoding = (a b : List ℕ) → IsCodeword a → IsCodeword b → take 132 a ≡ take 132 b → a ≡ b

-- no word has two codewords within a radius of at most 8
abbrev pub HaveOneNear : Type 0
HaveOneNear = (word a b : List ℕ) (radius : ℕ) → radius ≤ 8 → IsNear word radius a → IsNear word radius b → a ≡ b

-- no word with erased places has two codewords in reach
abbrev pub HaveOneNearErased : Type 0
HaveOneNearErased = (word a b : List ℕ) (erased : List Bool) → IsNearErased word erased a → IsNearErased word erased b → a ≡ b

-- the bytes that were dealt to four words are joined again
abbrev pub JoinsAgain : Type 0
JoinsAgain = (n : ℕ) (bytes : List ℕ) → length bytes ≡ 4 * n → bytes_of n (words_of n bytes) ≡ bytes

-- the four words that were joined are dealt again
abbrev pub DealsAgain : Type 0
DealsAgain = (n : ℕ) (words : List (List ℕ)) → length words ≡ 4 → ((i : ℕ) → i < 4 → length (slice_index_or words i []) ≡ n) → words_of n (bytes_of n words) ≡ words
