-- How the locator is found: polynomials of growing degree, whose row sums are cleared by those before.
use Rattle.std.specs.Prelude.{◌≡◌, ◌≢◌, ℕ, ◌<◌, ◌≤◌, Bool, true, false, not, ◌==◌, List, [], length, slice_index, slice_index_or}
use Rattle.rs_sector.specs.declared.locate.Pivots.{Pivots}
use Rattle.rs_sector.specs.declared.locate.Reduced.{Reduced}
use Rattle.rs_sector.specs.Field.{field_product}
use Rattle.rs_sector.specs.Code.{AreBytes, count_below}
use Rattle.rs_sector.specs.Locating.{row_sum, IsMonic}

-- a polynomial of this degree with its row sums
pub record IsColumn (sums : List ℕ) (degree : ℕ) (polynomial row_sums : List ℕ) : Type 0 where
  pub monic : IsMonic degree polynomial
  pub long : length polynomial ≡ 16
  pub bytes : AreBytes polynomial
  pub long_sums : length row_sums ≡ 16
  pub sum_bytes : AreBytes row_sums
  pub sums_are : (j : ℕ) → j < 8 → slice_index row_sums j ≡ row_sum sums polynomial j

-- a polynomial of lower degree, its row sums, of which that in the row is the first that is not 0, and the inverse of that
pub record IsPivot (sums : List ℕ) (degree row : ℕ) (polynomial row_sums : List ℕ) (inverse : ℕ) : Type 0 where
  pub above : (i : ℕ) → degree ≤ i → slice_index polynomial i ≡ 0
  pub before : (j : ℕ) → j < row → slice_index row_sums j ≡ 0
  pub sums_are : (j : ℕ) → j < 8 → slice_index row_sums j ≡ row_sum sums polynomial j
  pub inverse_is : field_product (slice_index row_sums row) inverse ≡ 1

-- the row has a pivot
abbrev pub is_filled : Pivots → ℕ → Bool
is_filled pivots row = not (slice_index pivots.inverses row == 0)

-- each pivot is one, and there are as many as the degree
pub record ArePivots (sums : List ℕ) (degree rows : ℕ) (pivots : Pivots) : Type 0 where
  pub pivot : (row : ℕ) → row < rows → is_filled pivots row ≡ true → IsPivot sums degree row (slice_index_or pivots.polynomials row []) (slice_index_or pivots.row_sums row []) (slice_index pivots.inverses row)
  pub count : count_below (is_filled pivots) rows ≡ degree
  pub long_polynomials : length pivots.polynomials ≡ 8
  pub long_sums : length pivots.row_sums ≡ 8
  pub long_inverses : length pivots.inverses ≡ 8

-- the column's sums are 0 up to a row without a pivot, or in all rows
pub record IsReduced (sums : List ℕ) (degree rows : ℕ) (pivots : Pivots) (reduced : Reduced) : Type 0 where
  pub column : IsColumn sums degree reduced.polynomial reduced.row_sums
  pub within : reduced.row ≤ rows
  pub before : (j : ℕ) → j < reduced.row → slice_index reduced.row_sums j ≡ 0
  pub stuck : reduced.row < rows → slice_index reduced.row_sums reduced.row ≢ 0
  pub empty : reduced.row < rows → is_filled pivots reduced.row ≡ false
