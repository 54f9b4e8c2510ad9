-- Sums of 16 lanes, and what the two tables of rows hold.
use Rattle.std.specs.Prelude.{◌≡◌, ℕ, ◌+◌, ◌/◌, ◌%◌, ◌<◌, ◌==◌, if◌then◌else◌, List, [], length, slice_index, slice_index_or, map, bit_xor}
use Rattle.std.specs.List.{range_with_len}
use Rattle.rs_sector.specs.Field.{field_product, power, sum_below}
use Rattle.rs_sector.specs.Code.{point, AreBytes}

-- number j of row k
abbrev pub entry : List (List ℕ) → ℕ → ℕ → ℕ
entry rows k j = slice_index (slice_index_or rows k []) j

-- the sum of the rows, each times its byte, in lane j
unfoldable pub combination : List ℕ → List (List ℕ) → ℕ → ℕ
combination bytes rows j = sum_below (λ k. field_product (slice_index bytes k) (entry rows k j)) (length bytes)

-- the 16 lanes of that sum
unfoldable pub combination_of : List ℕ → List (List ℕ) → List ℕ
combination_of bytes rows = map (combination bytes rows) (range_with_len 0 16)

-- the 16 lanes of the sum of the first n rows, each times its byte
unfoldable pub combination_of_first : List ℕ → List (List ℕ) → ℕ → List ℕ
combination_of_first bytes rows n = map (λ j. sum_below (λ k. field_product (slice_index bytes k) (entry rows k j)) n) (range_with_len 0 16)

-- row k has the powers 0 to 15 of the point of place k
abbrev pub HoldPowers : List (List ℕ) → Type 0
HoldPowers rows = (k j : ℕ) → k < 148 → j < 16 → entry rows k j ≡ power (point k) j

-- with row i as its check bytes, a word of zeros has 1 as its syndrome i and 0 as the others
abbrev pub HoldChecks : List (List ℕ) → Type 0
HoldChecks rows = (i j : ℕ) → i < 16 → j < 16 → sum_below (λ k. field_product (entry rows i k) (power (point (132 + k)) j)) 16 ≡ (if i == j then 1 else 0)

-- the lanes are those of the old ones plus the factor times the others
pub record AddsScaled (old new : List ℕ) (factor : ℕ) (lanes : List ℕ) : Type 0 where
  pub long : length new ≡ 16
  pub bytes : AreBytes new
  pub sums : (j : ℕ) → j < 16 → slice_index new j ≡ bit_xor (slice_index old j) (field_product factor (slice_index lanes j))

-- each sum but the last is the one after it plus the point times itself
pub record Eliminates (old new : List ℕ) (point : ℕ) : Type 0 where
  pub long : length new ≡ 16
  pub bytes : AreBytes new
  pub sums : (j : ℕ) → j < 15 → slice_index new j ≡ bit_xor (slice_index old (j + 1)) (field_product point (slice_index old j))

-- row i of block b has power i of the points of the places 16 b to 16 b + 15
abbrev pub HoldBlocks : List (List (List ℕ)) → Type 0
HoldBlocks blocks = (k i : ℕ) → k < 148 → i < 9 → entry (slice_index_or blocks (k / 16) []) i (k % 16) ≡ power (point k) i
