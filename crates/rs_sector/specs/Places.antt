-- The marked places of a word as a list, and the values there.
use Rattle.std.specs.Prelude.{◌≡◌, ◌≢◌, ℕ, ◌<◌, ◌≤◌, Bool, true, false, List, length, slice_index, bit_xor}
use Rattle.rs_sector.specs.Field.{sum_below}
use Rattle.rs_sector.specs.Code.{count_below}
use Rattle.rs_sector.specs.Decoding.{is_marked}
use Rattle.rs_sector.specs.Locating.{AreByteValues, AreSums}

-- the first numbers of the list, as many as counted, are places below n, and no two are the same
pub record ArePlaces (n : ℕ) (list : List ℕ) (count : ℕ) : Type 0 where
  pub long : length list ≡ 16
  pub few : count ≤ 16
  pub below : (i : ℕ) → i < count → slice_index list i < n
  pub apart : (i k : ℕ) → i < k → k < count → slice_index list i ≢ slice_index list k

-- they are the marked places below n: each of these is listed, and so a sum over the places below n is one over the list where it is 0 elsewhere
pub record ListsMarked (marks : List Bool) (n : ℕ) (list : List ℕ) (count : ℕ) : Type 0 where
  pub places : ArePlaces n list count
  pub counted : count ≡ count_below (is_marked marks) n
  pub each : (k : ℕ) → k < n → is_marked marks k ≡ true → (i : ℕ) × (i < count) × (slice_index list i ≡ k)
  pub sums : (f : ℕ → ℕ) → ((k : ℕ) → k < n → is_marked marks k ≡ false → f k ≡ 0) → sum_below f n ≡ sum_below (λ i. f (slice_index list i)) count

-- the values of the first places of the list are added to the word, and its other places are kept
pub record AddsValues (list : List ℕ) (values : List ℕ) (count : ℕ) (old new : List ℕ) : Type 0 where
  pub long : length new ≡ length old
  pub listed : (i : ℕ) → i < count → slice_index new (slice_index list i) ≡ bit_xor (slice_index old (slice_index list i)) (slice_index values i)
  pub others : (k : ℕ) → ((i : ℕ) → i < count → slice_index list i ≢ k) → slice_index new k ≡ slice_index old k

-- whatever values have these sums, and are 0 at the places without a mark, are added to the word
abbrev pub AddsErrors : List Bool → List ℕ → List ℕ → List ℕ → Type 0
AddsErrors marks sums old new =
    (values : ℕ → ℕ) → AreByteValues values → AreSums sums 16 values → ((k : ℕ) → k < 148 → is_marked marks k ≡ false → values k ≡ 0)
    → (k : ℕ) → k < 148 → slice_index new k ≡ bit_xor (slice_index old k) (values k)
