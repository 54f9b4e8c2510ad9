-- How the decoder finds the places that may be wrong, and the values there.
use Rattle.std.specs.Prelude.{◌≡◌, ◌≢◌, ℕ, zero, suc, ◌+◌, ◌/◌, ◌%◌, ◌<◌, ◌≤◌, Bool, ◌==◌, ◌||◌, if◌then◌else◌, List, [], length, slice_index, slice_index_or, bit_xor}
use Rattle.rs_sector.specs.Field.{field_product, power, sum_below}
use Rattle.rs_sector.specs.Code.{point, AreBytes}
use Rattle.rs_sector.specs.Decoding.{is_marked}

-- the sum over the places below n of the value there times the point's power j
abbrev pub power_sum : (ℕ → ℕ) → (ℕ → ℕ) → ℕ → ℕ → ℕ
power_sum values points n j = sum_below (λ k. field_product (values k) (power (points k) j)) n

-- the values are bytes
abbrev pub AreByteValues : (ℕ → ℕ) → Type 0
AreByteValues values = (k : ℕ) → values k < 256

-- no two of the first n points are the same
abbrev pub AreApart : (ℕ → ℕ) → ℕ → Type 0
AreApart points n = (i k : ℕ) → i < k → k < n → points i ≢ points k

-- the first n sums are those of the values at the places of a word
abbrev pub AreSums : List ℕ → ℕ → (ℕ → ℕ) → Type 0
AreSums sums n values = (j : ℕ) → j < n → slice_index sums j ≡ power_sum values point 148 j

-- the value at place k times the distances of its point from the points of the places below n that are erased
unfoldable pub eliminated_values : List Bool → (ℕ → ℕ) → ℕ → ℕ → ℕ
eliminated_values erased values zero k = values k
eliminated_values erased values (suc n) k = if is_marked erased n then field_product (eliminated_values erased values n k) (bit_xor (point k) (point n)) else eliminated_values erased values n k

-- the sum of a polynomial of degree below 9 and the sums from j on
unfoldable pub row_sum : List ℕ → List ℕ → ℕ → ℕ
row_sum sums polynomial j = sum_below (λ i. field_product (slice_index polynomial i) (slice_index sums (i + j))) 9

-- the value at x of a polynomial of degree below 9, the lowest coefficient first
unfoldable pub polynomial_at : List ℕ → ℕ → ℕ
polynomial_at polynomial x = sum_below (λ i. field_product (slice_index polynomial i) (power x i)) 9

-- the polynomial has this degree and 1 as its highest coefficient
pub record IsMonic (degree : ℕ) (polynomial : List ℕ) : Type 0 where
  pub highest : slice_index polynomial degree ≡ 1
  pub above : (i : ℕ) → degree < i → slice_index polynomial i ≡ 0

-- a polynomial of degree at most rows whose sums with the sums from 0 on, from 1 on, .. are 0 in that many rows
pub record IsLocator (sums : List ℕ) (rows : ℕ) (polynomial : List ℕ) : Type 0 where
  pub degree : ℕ
  pub low : degree ≤ rows
  pub bytes : AreBytes polynomial
  pub monic : IsMonic degree polynomial
  pub rows_vanish : (j : ℕ) → j < rows → row_sum sums polynomial j ≡ 0

-- the places that are erased or a root of the polynomial
abbrev pub is_suspect : List Bool → List ℕ → ℕ → Bool
is_suspect erased polynomial k = is_marked erased k || (polynomial_at polynomial (point k) == 0)

-- lane j of block b is the polynomial's value at the point of place 16 b + j
abbrev pub HoldValues : List ℕ → List (List ℕ) → Type 0
HoldValues polynomial values = (k : ℕ) → k < 148 → slice_index (slice_index_or values (k / 16) []) (k % 16) ≡ polynomial_at polynomial (point k)

-- whatever values have these sums at the points are the result
abbrev pub Solves : List ℕ → List ℕ → List ℕ → Type 0
Solves points sums result =
    (values : ℕ → ℕ) → AreByteValues values → ((j : ℕ) → j < length sums → slice_index sums j ≡ power_sum values (λ k. slice_index points k) (length sums) j)
    → (k : ℕ) → k < length sums → slice_index result k ≡ values k

-- the first sum is kept, and each other one is itself plus the point times the one before
pub record EliminatesFirst (point : ℕ) (old new : List ℕ) : Type 0 where
  pub long : length new ≡ length old
  pub first : slice_index new 0 ≡ slice_index old 0
  pub others : (j : ℕ) → j + 1 < length old → slice_index new (j + 1) ≡ bit_xor (slice_index old (j + 1)) (field_product point (slice_index old j))

-- whatever values, times the distances of their points from the first, stand behind the first, where their sum stands, are the result
abbrev pub DividesOut : List ℕ → List ℕ → List ℕ → Type 0
DividesOut points old new =
    (values : ℕ → ℕ) → AreByteValues values → ((k : ℕ) → 0 < k → k < length old → slice_index old k ≡ field_product (values k) (bit_xor (slice_index points k) (slice_index points 0)))
    → slice_index old 0 ≡ sum_below values (length old) → (k : ℕ) → k < length old → slice_index new k ≡ values k
