-- A word's distance from the samples, by the branches of its states.
use Rattle.std.proofs.Common.{◌≡◌, ◌⊎◌, ℕ, suc, ◌+◌, ◌*◌, Bool, true, false, ℤ, pos, negsuc, ◌+ℤ◌, ◌-ℤ◌, ◌*ℤ◌, FitsSigned, w8, inl, inr, arith}
use Rattle.std.specs.Prelude.{unsigned_abs}
use Rattle.std.proofs.lemmas.Int.{ints}
use Rattle.std.proofs.lemmas.Bool.{cases_lt}
use Rattle.prml_viterbi.specs.Levels.{level_for}
use Rattle.prml_viterbi.specs.Detected.{square}
use Rattle.prml_viterbi.specs.Trellis.{State, low_three, low_two, low_one, high_one, high_two, high_three, is_high_state, branch}

-- the level one place back, in a state
abbrev pub second : State → Bool
second low_three = false
second low_two = false
second low_one = true
second high_one = false
second high_two = true
second high_three = true

-- the level two places back, in a state
abbrev pub third : State → Bool
third low_three = false
third low_two = true
third low_one = true
third high_one = false
third high_two = false
third high_three = true

-- the numbers' part of it: a is what the clean sample differs from the sample, r the branch, n the sample's size
away : (a r n : ℕ) → a ≡ 32 + n → r ≡ 144 + n → a * a + 8192 ≡ 64 * r + n * n
away a r n e f = rw (e, f) (omega arith)

toward : (a r n : ℕ) → (a + n ≡ 32) ⊎ (a + 32 ≡ n) → r + n ≡ 144 → a * a + 8192 ≡ 64 * r + n * n
toward a r n (inl e) f = omega (arith, difference a n 32 e)
  where
    difference : (x y z : ℕ) → x + y ≡ z → x * x + 2 * (z * y) ≡ y * y + z * z
    difference x y z g = rw (← g) (omega arith)
toward a r n (inr e) f = omega (arith, difference a n e)
  where
    difference : (x y : ℕ) → x + 32 ≡ y → x * x + 64 * y ≡ y * y + 1024
    difference x y g = rw (← g) (omega arith)

low_square : (z : ℤ) → FitsSigned w8 z → square (negsuc 31 -ℤ z) + 8192 ≡ 64 * unsigned_abs (z +ℤ pos 144) + square z
low_square (pos n) h = away _ _ n (omega (arith, ints)) (omega (arith, ints))
low_square (negsuc n) h = toward (unsigned_abs (negsuc 31 -ℤ negsuc n)) _ (suc n) (elim (cases_lt n 32) [ inl x ↦ inl (omega (arith, ints)) | inr x ↦ inr (omega (arith, ints)) ]) (omega (arith, ints))

high_square : (z : ℤ) → FitsSigned w8 z → square (pos 32 -ℤ z) + 8192 ≡ 64 * unsigned_abs (pos 144 -ℤ z) + square z
high_square (pos n) h = toward (unsigned_abs (pos 32 -ℤ pos n)) _ n (elim (cases_lt n 32) [ inl x ↦ inl (omega (arith, ints)) | inr x ↦ inr (omega (arith, ints)) ]) (omega (arith, ints))
high_square (negsuc n) h = away _ _ (suc n) (omega (arith, ints)) (omega (arith, ints))

settled_square : (z : ℤ) → square (pos 0 -ℤ z) + 8192 ≡ 64 * 128 + square z
settled_square z =
    let same : unsigned_abs (pos 0 -ℤ z) ≡ unsigned_abs z = omega (arith, ints) in
    rw same (omega arith)

-- the square of what the state's clean sample differs from the sample
pub square-state : (s : State) (z : ℤ) → FitsSigned w8 z
    → square (pos 16 *ℤ (level_for (is_high_state s) -ℤ level_for (third s)) -ℤ z) + 8192 ≡ 64 * branch s z + square z
square-state low_three z h = settled_square z
square-state low_two z h = low_square z h
square-state low_one z h = low_square z h
square-state high_one z h = high_square z h
square-state high_two z h = high_square z h
square-state high_three z h = settled_square z
