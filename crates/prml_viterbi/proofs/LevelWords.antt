-- Channel bits, levels and samples, one place more.
use Rattle.std.proofs.Common.{◌≡◌, ℕ, zero, suc, ◌+◌, ◌<◌, ◌≤◌, Bool, true, false, not, List, [], ◌∷◌, ◌++◌, length, take, drop, set, get_or, ℤ, pos, to_z, of_z, w8, refl, sym, ap, ◌∙◌, inl, inr, append_assoc}
use Rattle.std.proofs.Math.Bool.{beq}
use Rattle.std.specs.Int.Signed.{lt_z}
use Rattle.std.proofs.lemmas.List.{drop_more, take_more_set, take_all, drop_all, append-nil, get_or_past}
use Rattle.std.proofs.lemmas.Bool.{cases_lt}
use Rattle.prml_viterbi.specs.Levels.{IsLevel, AreLevels, level_for, is_high, flip, levels_after, bits_after, level_at}

-- the code's test of a change, for either side
pub differs-flip : (high bit : Bool) → not (beq high bit) ≡ flip bit high
differs-flip true true = refl
differs-flip true false = refl
differs-flip false true = refl
differs-flip false false = refl

pub differs-flip_by : (high bit : Bool) → not (beq high bit) ≡ flip high bit
differs-flip_by true true = refl
differs-flip_by true false = refl
differs-flip_by false true = refl
differs-flip_by false false = refl

-- the code's test of a level
pub above_zero-is_high : (a : ℤ) → IsLevel a → lt_z (pos 0) (to_z w8 (of_z w8 a)) ≡ is_high a
above_zero-is_high a (inl e) = rw e refl
above_zero-is_high a (inr e) = rw e refl

pub level_for-is_high : (a : ℤ) → IsLevel a → level_for (is_high a) ≡ a
level_for-is_high a (inl e) = rw e refl
level_for-is_high a (inr e) = rw e refl

-- the levels written so far, and those of the bits that are left
pub levels_after-more : (bits : List Bool) (out word : List ℤ) (high : Bool) (k : ℕ) → k < length bits → k < length out
    → take k out ++ levels_after high (drop k bits) ≡ word
    → take (k + 1) (set out k (level_for (flip (get_or bits k false) high))) ++ levels_after (flip (get_or bits k false) high) (drop (k + 1) bits) ≡ word
levels_after-more bits out word high k h room e =
    let bit = get_or bits k false in
    ap (λ xs. xs ++ levels_after (flip bit high) (drop (k + 1) bits)) (take_more_set out k (level_for (flip bit high)) room)
    ∙ append_assoc (take k out) (level_for (flip bit high) ∷ []) (levels_after (flip bit high) (drop (k + 1) bits))
    ∙ ap (λ xs. take k out ++ levels_after high xs) (sym (drop_more bits k false h))
    ∙ e

-- the bits written so far, and those of the levels that are left
pub bits_after-more : (levels : List ℤ) (out word : List Bool) (high : Bool) (k : ℕ) → k < length levels → k < length out
    → take k out ++ bits_after high (drop k levels) ≡ word
    → take (k + 1) (set out k (flip high (is_high (get_or levels k (pos 0))))) ++ bits_after (is_high (get_or levels k (pos 0))) (drop (k + 1) levels) ≡ word
bits_after-more levels out word high k h room e =
    let a = get_or levels k (pos 0) in
    ap (λ xs. xs ++ bits_after (is_high a) (drop (k + 1) levels)) (take_more_set out k (flip high (is_high a)) room)
    ∙ append_assoc (take k out) (flip high (is_high a) ∷ []) (bits_after (is_high a) (drop (k + 1) levels))
    ∙ ap (λ xs. take k out ++ bits_after high xs) (sym (drop_more levels k (pos 0) h))
    ∙ e

pub levels_after-all : (bits : List Bool) (out word : List ℤ) (high : Bool) (k : ℕ) → length bits ≤ k → length out ≤ k
    → take k out ++ levels_after high (drop k bits) ≡ word → out ≡ word
levels_after-all bits out word high k h room e =
    sym (ap (λ xs. xs ++ levels_after high (drop k bits)) (take_all k out room) ∙ ap (λ xs. out ++ levels_after high xs) (drop_all k bits h) ∙ append-nil out) ∙ e

pub bits_after-all : (levels : List ℤ) (out word : List Bool) (high : Bool) (k : ℕ) → length levels ≤ k → length out ≤ k
    → take k out ++ bits_after high (drop k levels) ≡ word → out ≡ word
bits_after-all levels out word high k h room e =
    sym (ap (λ xs. xs ++ bits_after high (drop k levels)) (take_all k out room) ∙ ap (λ xs. out ++ bits_after high xs) (drop_all k levels h) ∙ append-nil out) ∙ e

-- each level, those before the word included, is one
pub level_at-is_level : (word : List ℤ) → AreLevels word → (k : ℕ) → IsLevel (level_at word k)
level_at-is_level word h zero = inl refl
level_at-is_level word h (suc zero) = inl refl
level_at-is_level word h (suc (suc zero)) = inl refl
level_at-is_level word h (suc (suc (suc k))) = elim (cases_lt k (length word)) [
  | inl inside ↦ h k (pos 1) inside
  | inr past ↦ inl (get_or_past word k (pos 1) past)
]
