-- The least word of the trellis is the detected word.
use Rattle.std.proofs.Common.{◌≡◌, ◌⊎◌, ℕ, zero, suc, ◌+◌, ◌*◌, ◌≤◌, Bool, true, false, List, ◌∷◌, length, Some, ℤ, pos, ◌-ℤ◌, ◌*ℤ◌, get_or, FitsSigned, w8, refl, sym, ap, ◌∙◌, inl, inr, arith}
use Rattle.std.proofs.lemmas.Bool.{cases_eq}
use Rattle.std.proofs.lemmas.List.{ext_get_or, get_or_past}
use Rattle.prml_viterbi.specs.Levels.{AreLevels, level_for, is_high, clean_at}
use Rattle.prml_viterbi.specs.Detected.{square, distance_below, ComesBefore, IsBetter, IsDetected}
use Rattle.prml_viterbi.specs.Trellis.{State, state_of, is_high_state, branch, branch_at, metric, Precedes, IsAtLeastAsGood, IsLeast, first_levels}
use Rattle.prml_viterbi.proofs.Words.{last_step}
use Rattle.prml_viterbi.proofs.LevelWords.{level_at-is_level, level_for-is_high}
use Rattle.prml_viterbi.proofs.Distances.{third, square-state}
use Rattle.prml_viterbi.proofs.Allowed.{Matches-from_levels, state-from_allowed, IsAllowed-from_state}

pub length-first_levels : (word : List ℤ) (n : ℕ) → length (first_levels word n) ≡ n
length-first_levels word zero = refl
length-first_levels word (suc n) = ap suc (length-first_levels word n)

-- the sum of the squares of the first n samples
energy : List ℤ → ℕ → ℕ
energy samples zero = 0
energy samples (suc n) = energy samples n + square (get_or samples n (pos 0))

-- the distance and the metric of a word differ by what all words share
distance-metric : (samples word : List ℤ) → ((k : ℕ) → FitsSigned w8 (get_or samples k (pos 0))) → AreLevels word
    → (n : ℕ) (s : State) → state_of (first_levels word n) ≡ Some s
    → distance_below samples word n + 8192 * n ≡ 64 * metric samples (first_levels word n) + energy samples n
unfolding energy
distance-metric samples word fits levels zero s e = refl
distance-metric samples word fits levels (suc n) s e =
    let z = get_or samples n (pos 0) in
    let b = is_high (get_or word n (pos 1)) in
    let step = last_step b (state_of (first_levels word n)) s e in
    let before = distance-metric samples word fits levels n step.0 step.1 in
    let m = Matches-from_levels word levels (suc n) s e in
    let clean : clean_at word n ≡ pos 16 *ℤ (level_for (is_high_state s) -ℤ level_for (third s)) = rw (m.last, m.first) refl in
    let squares : square (clean_at word n -ℤ z) + 8192 ≡ 64 * branch s z + square z = rw clean (square-state s z (fits n)) in
    let cost : branch_at (state_of (first_levels word (suc n))) (get_or samples (length (first_levels word n)) (pos 0)) ≡ branch s z = rw (e, length-first_levels word n) refl in
    let more : metric samples (first_levels word (suc n)) ≡ metric samples (first_levels word n) + branch s z = ap (λ x. metric samples (first_levels word n) + x) cost in
    omega arith

-- words that agree from place n on and are in order below it are the same, or in order
in_order : (word other : List ℤ) → AreLevels word → AreLevels other → (n : ℕ) → n ≤ length word
    → ((k : ℕ) → n ≤ k → get_or word k (pos 1) ≡ get_or other k (pos 1))
    → Precedes (first_levels word n) (first_levels other n)
    → ((k : ℕ) → get_or word k (pos 1) ≡ get_or other k (pos 1)) ⊎ ComesBefore word other
in_order word other levels levels' zero h same first = inl (λ k. same k (omega arith))
in_order word other levels levels' (suc n) h same first =
    by_last (is_high (get_or word n (pos 1))) (is_high (get_or other n (pos 1))) refl refl
    (λ further p. in_order word other levels levels' n (omega arith) further p) first
  where
    level_of : (w : List ℤ) → AreLevels w → (b : Bool) → is_high (get_or w n (pos 1)) ≡ b → get_or w n (pos 1) ≡ level_for b
    level_of w l b e = sym (level_for-is_high (get_or w n (pos 1)) (level_at-is_level w l (suc (suc (suc n))))) ∙ ap level_for e

    further : (b : Bool) → is_high (get_or word n (pos 1)) ≡ b → is_high (get_or other n (pos 1)) ≡ b → (k : ℕ) → n ≤ k → get_or word k (pos 1) ≡ get_or other k (pos 1)
    further b e f k low = elim (cases_eq k n) [
      | inl here ↦ rw here (level_of word levels b e ∙ sym (level_of other levels' b f))
      | inr above ↦ same k (omega (arith, above))
    ]

    by_last : (b c : Bool) → is_high (get_or word n (pos 1)) ≡ b → is_high (get_or other n (pos 1)) ≡ c
        → (((k : ℕ) → n ≤ k → get_or word k (pos 1) ≡ get_or other k (pos 1)) → Precedes (first_levels word n) (first_levels other n) → ((k : ℕ) → get_or word k (pos 1) ≡ get_or other k (pos 1)) ⊎ ComesBefore word other)
        → Precedes (b ∷ first_levels word n) (c ∷ first_levels other n)
        → ((k : ℕ) → get_or word k (pos 1) ≡ get_or other k (pos 1)) ⊎ ComesBefore word other
    by_last false true e f again p = inr record {
      place = n;
      inside = h;
      low = level_of word levels false e;
      high = level_of other levels' true f;
      same_after = λ k above. same k above;
    }
    by_last true false e f again p = absurd p
    by_last false false e f again p = again (further false e f) p
    by_last true true e f again p = again (further true e f) p

-- a word that is at least as good in the trellis is the other, or better
better-from_trellis : (samples word other : List ℤ) → ((k : ℕ) → FitsSigned w8 (get_or samples k (pos 0)))
    → AreLevels word → AreLevels other → length word ≡ length samples → length other ≡ length samples
    → (s t : State) → state_of (first_levels word (length samples)) ≡ Some s → state_of (first_levels other (length samples)) ≡ Some t
    → IsAtLeastAsGood samples (first_levels word (length samples)) (first_levels other (length samples))
    → (other ≡ word) ⊎ IsBetter samples word other
better-from_trellis samples word other fits levels levels' long long' s t e f (inl less) =
    inr (inl (omega (arith, distance-metric samples word fits levels (length samples) s e, distance-metric samples other fits levels' (length samples) t f)))
better-from_trellis samples word other fits levels levels' long long' s t e f (inr same) =
    elim (in_order word other levels levels' (length samples) (omega arith) past same.1) [
      | inl all ↦ inl (ext_get_or (pos 1) other word (long' ∙ sym long) (λ i h. sym (all i)))
      | inr before ↦ inr (inr (omega (arith, same.0, distance-metric samples word fits levels (length samples) s e, distance-metric samples other fits levels' (length samples) t f), before))
    ]
  where
    past : (k : ℕ) → length samples ≤ k → get_or word k (pos 1) ≡ get_or other k (pos 1)
    past k h = get_or_past word k (pos 1) (omega arith) ∙ sym (get_or_past other k (pos 1) (omega arith))

-- the least word of the trellis is the detected word
pub IsDetected-from_least : (samples word : List ℤ) → ((k : ℕ) → FitsSigned w8 (get_or samples k (pos 0)))
    → AreLevels word → length word ≡ length samples → IsLeast samples (length samples) (first_levels word (length samples)) → IsDetected samples word
IsDetected-from_least samples word fits levels long best = record {
  allowed = IsAllowed-from_state word best.state levels (rw long best.leads);
  long = long;
  least = λ other allowed same.
      let end = state-from_allowed other allowed (length samples) (omega arith) in
      better-from_trellis samples word other fits levels allowed.levels long same best.state end.0 best.leads end.1
      (best.least (first_levels other (length samples)) end.0 (length-first_levels other (length samples)) end.1);
}
