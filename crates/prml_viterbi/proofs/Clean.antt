-- Clean samples: their word is at no distance, and each other word is at some.
use Rattle.std.proofs.Common.{◌≡◌, ◌⊎◌, ℕ, zero, suc, ◌<◌, ◌≤◌, List, length, ℤ, pos, negsuc, ◌-ℤ◌, get_or, refl, sym, ◌∙◌, inl, inr, arith}
use Rattle.std.proofs.lemmas.Int.{ints}
use Rattle.std.proofs.lemmas.Bool.{cases_lt, cases_order}
use Rattle.std.proofs.lemmas.List.{ext_get_or}
use Rattle.std.proofs.lemmas.List.FromFn.{length-map-range_with_len, get_or-map-range_with_len}
use Rattle.prml_viterbi.specs.Levels.{level_at, clean_at, clean_samples, IsAllowed}
use Rattle.prml_viterbi.specs.Detected.{square, distance_below, distance, IsBetter, IsDetected, ComesBefore, CleanSamplesTell}

square-difference_self : (x : ℤ) → square (x -ℤ x) ≡ 0
square-difference_self x = let none : x -ℤ x ≡ pos 0 = omega (arith, ints) in rw none refl

zero_from_square : (x : ℤ) → square x ≡ 0 → x ≡ pos 0
zero_from_square (pos zero) e = refl
zero_from_square (pos (suc n)) e = absurd (omega arith)
zero_from_square (negsuc n) e = absurd (omega arith)

pub distance-clean : (samples word : List ℤ) (n : ℕ) → ((k : ℕ) → k < n → get_or samples k (pos 0) ≡ clean_at word k) → distance_below samples word n ≡ 0
distance-clean samples word zero clean = refl
distance-clean samples word (suc n) clean =
    let before = distance-clean samples word n (λ k h. clean k (omega arith)) in
    let here : square (clean_at word n -ℤ get_or samples n (pos 0)) ≡ 0 = rw (clean n below) (square-difference_self (clean_at word n)) in
    omega arith
  where
    below : n < suc n
    below = omega arith

pub clean-from_distance : (samples word : List ℤ) (n : ℕ) → distance_below samples word n ≡ 0 → (k : ℕ) → k < n → get_or samples k (pos 0) ≡ clean_at word k
clean-from_distance samples word zero none k h = absurd (omega arith)
clean-from_distance samples word (suc n) none k h = elim (cases_lt k n) [
  | inl less ↦ clean-from_distance samples word n (omega arith) k less
  | inr last ↦
      let same : k ≡ n = omega arith in
      let zero_is : clean_at word n -ℤ get_or samples n (pos 0) ≡ pos 0 = zero_from_square (clean_at word n -ℤ get_or samples n (pos 0)) (omega arith) in
      rw same (omega (arith, ints))
]

-- words with the same clean samples have the same levels
pub same_levels : (word other : List ℤ) (n : ℕ) → ((k : ℕ) → k < n → clean_at word k ≡ clean_at other k) → (k : ℕ) → k ≤ n
    → (level_at word (suc k) ≡ level_at other (suc k)) × (level_at word (suc (suc k)) ≡ level_at other (suc (suc k)))
same_levels word other n same zero h = (refl, refl)
same_levels word other n same (suc k) h =
    let before = same_levels word other n same k (omega arith) in
    let clean = same k h in
    (before.1, omega (arith, ints))

-- a word whose clean samples these are is the detected word
pub IsDetected-from_clean : (samples word : List ℤ) → IsAllowed word → length word ≡ length samples
    → ((k : ℕ) → k < length samples → get_or samples k (pos 0) ≡ clean_at word k) → IsDetected samples word
IsDetected-from_clean samples word allowed long clean = record {
  allowed = allowed;
  long = long;
  least = λ other _ same. against other same (cases_lt 0 (distance samples other));
}
  where
    against : (other : List ℤ) → length other ≡ length samples → (0 < distance samples other) ⊎ (distance samples other ≤ 0) → (other ≡ word) ⊎ IsBetter samples word other
    against other same (inl far) = inr (inl (omega (arith, distance-clean samples word (length samples) clean)))
    against other same (inr near) =
        let its = clean-from_distance samples other (length samples) (omega arith) in
        inl (ext_get_or (pos 1) other word (same ∙ sym long)
        (λ k h. (same_levels other word (length samples) (λ j b. sym (its j b) ∙ clean j b) (suc k) (omega arith)).1))

-- of two words, not each comes before the other
pub not_both_before : (word other : List ℤ) → ComesBefore word other → ComesBefore other word → ⊥
not_both_before word other a b = elim (cases_order a.place b.place) [
  | inl same ↦ let low = rw same at a.low in let high = b.high in cc
  | inr apart ↦ elim apart [
    | inl less ↦ let same = a.same_after b.place less in let low = b.low in let high = b.high in cc
    | inr more ↦ let same = b.same_after a.place more in let low = a.low in let high = a.high in cc
  ]
]

pub IsDetected-unique : (samples word other : List ℤ) → IsDetected samples word → IsDetected samples other → word ≡ other
IsDetected-unique samples word other a b = joined (a.least other b.allowed b.long) (b.least word a.allowed a.long)
  where
    joined : (other ≡ word) ⊎ IsBetter samples word other → (word ≡ other) ⊎ IsBetter samples other word → word ≡ other
    joined (inl e) f = sym e
    joined (inr x) (inl e) = e
    joined (inr (inl x)) (inr (inl y)) = absurd (omega arith)
    joined (inr (inl x)) (inr (inr y)) = absurd (omega (arith, y.0))
    joined (inr (inr x)) (inr (inl y)) = absurd (omega (arith, x.0))
    joined (inr (inr x)) (inr (inr y)) = absurd (not_both_before word other x.1 y.1)

-- an allowed word is detected in its clean samples
pub clean_samples_tell : CleanSamplesTell
clean_samples_tell word allowed =
    let long = length-map-range_with_len (clean_at word) 0 (length word) in
    IsDetected-from_clean (clean_samples word) word allowed (sym long)
    (λ k h. get_or-map-range_with_len (clean_at word) 0 (length word) k k (pos 0) (omega (arith, long)) (omega arith))
