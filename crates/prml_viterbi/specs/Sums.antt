-- The sums that the detector keeps, by state.
use Rattle.std.specs.Prelude.{◌≡◌, ◌⊎◌, ℕ, ◌+◌, ◌<◌, ◌≤◌, ◌^◌, ℤ, nat_lt, if◌then◌else◌}
use Rattle.prml_viterbi.specs.Trellis.{State, low_three, low_two, low_one, high_one, high_two, high_three, branch, survivor, code}
use Rattle.prml_viterbi.specs.declared.trellis.Sums.{Sums}

-- the sum kept for a state
abbrev pub sum_at : Sums → State → ℕ
sum_at sums low_three = sums.low_three
sum_at sums low_two = sums.low_two
sum_at sums low_one = sums.low_one
sum_at sums high_one = sums.high_one
sum_at sums high_two = sums.high_two
sum_at sums high_three = sums.high_three

-- one step more fits 64 bits
pub record HasRoom (sums : Sums) : Type 0 where
  pub low_three : sums.low_three < 2 ^ 63
  pub low_two : sums.low_two < 2 ^ 63
  pub low_one : sums.low_one < 2 ^ 63
  pub high_one : sums.high_one < 2 ^ 63
  pub high_two : sums.high_two < 2 ^ 63
  pub high_three : sums.high_three < 2 ^ 63

-- the sums after a sample, and what is kept of the two choices: each state takes the one state that
-- leads to it, and a state of run three the lesser of two; of equal sums, that of run three at the
-- low level and that of run two at the high one
pub record Steps (old : Sums) (sample : ℤ) (new : Sums) (kept : ℕ) : Type 0 where
  pub low_three : new.low_three ≡ (if nat_lt old.low_two old.low_three then old.low_two else old.low_three) + branch low_three sample
  pub low_two : new.low_two ≡ old.low_one + branch low_two sample
  pub low_one : new.low_one ≡ old.high_three + branch low_one sample
  pub high_one : new.high_one ≡ old.low_three + branch high_one sample
  pub high_two : new.high_two ≡ old.high_one + branch high_two sample
  pub high_three : new.high_three ≡ (if nat_lt old.high_three old.high_two then old.high_three else old.high_two) + branch high_three sample
  pub choices : kept ≡ survivor (nat_lt old.low_two old.low_three) (nat_lt old.high_three old.high_two)

-- the code of the state of the least sum; of equal sums, of the least code
pub record IsEnd (sums : Sums) (end : ℕ) : Type 0 where
  pub state : State
  pub coded : code state ≡ end
  pub least : (other : State) → (sum_at sums state < sum_at sums other) ⊎ ((sum_at sums state ≡ sum_at sums other) × (code state ≤ code other))
