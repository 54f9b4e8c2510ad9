-- Channel bits and level words say each other, and bits with two 0s after each 1 keep the runs.
use Rattle.std.proofs.Common.{◌≡◌, ◌⊎◌, ℕ, zero, suc, ◌<◌, Bool, true, false, List, [], ◌∷◌, length, ℤ, pos, get_or, refl, sym, ap, ◌∙◌, inl, inr, arith}
use Rattle.std.proofs.lemmas.Bool.{cases_Bool}
use Rattle.prml_viterbi.specs.Levels.{IsLevel, AreLevels, level_for, is_high, flip, levels_after, level_word, bits_after, level_at, KeepsRuns, IsAllowed, AreSpaced}
use Rattle.prml_viterbi.proofs.LevelWords.{level_at-is_level, level_for-is_high}
use Rattle.prml_viterbi.proofs.Traces.{level_for-is_level, is_high-level_for}

flip-flip : (bit high : Bool) → flip high (flip bit high) ≡ bit
flip-flip true true = refl
flip-flip true false = refl
flip-flip false true = refl
flip-flip false false = refl

flip_back : (next high : Bool) → flip (flip high next) high ≡ next
flip_back true true = refl
flip_back true false = refl
flip_back false true = refl
flip_back false false = refl

pub bits_after-levels_after : (high : Bool) (bits : List Bool) → bits_after high (levels_after high bits) ≡ bits
bits_after-levels_after high [] = refl
bits_after-levels_after high (bit ∷ bits) =
    let next = flip bit high in
    ap (λ h. flip high h ∷ bits_after h (levels_after next bits)) (is_high-level_for next)
    ∙ ap (λ b. b ∷ bits_after next (levels_after next bits)) (flip-flip bit high)
    ∙ ap (λ bs. bit ∷ bs) (bits_after-levels_after next bits)

pub levels_after-bits_after : (high : Bool) (word : List ℤ) → AreLevels word → levels_after high (bits_after high word) ≡ word
levels_after-bits_after high [] levels = refl
levels_after-bits_after high (a ∷ word) levels =
    let next = is_high a in
    ap (λ h. level_for h ∷ levels_after h (bits_after next word)) (flip_back next high)
    ∙ ap (λ x. x ∷ levels_after next (bits_after next word)) (level_for-is_high a (levels 0 (pos 1) (omega arith)))
    ∙ ap (λ w. a ∷ w) (levels_after-bits_after next word (λ k d h. levels (suc k) d (omega arith)))

pub AreLevels-levels_after : (high : Bool) (bits : List Bool) (k : ℕ) (d : ℤ) → k < length (levels_after high bits) → IsLevel (get_or (levels_after high bits) k d)
AreLevels-levels_after high [] k d h = absurd (omega arith)
AreLevels-levels_after high (bit ∷ bits) zero d h = level_for-is_level (flip bit high)
AreLevels-levels_after high (bit ∷ bits) (suc k) d h = AreLevels-levels_after (flip bit high) bits k d (omega arith)

pub length-levels_after : (high : Bool) (bits : List Bool) → length (levels_after high bits) ≡ length bits
length-levels_after high [] = refl
length-levels_after high (bit ∷ bits) = ap suc (length-levels_after (flip bit high) bits)

-- a level is the one before it, flipped by its bit
pub get_or-levels_after : (high : Bool) (bits : List Bool) (k : ℕ) → k < length bits
    → get_or (levels_after high bits) k (pos 1) ≡ level_for (flip (get_or bits k false) (is_high (get_or (level_for high ∷ levels_after high bits) k (pos 1))))
get_or-levels_after high [] k h = absurd (omega arith)
get_or-levels_after high (bit ∷ bits) zero h = ap (λ x. level_for (flip bit x)) (sym (is_high-level_for high))
get_or-levels_after high (bit ∷ bits) (suc k) h = get_or-levels_after (flip bit high) bits k (omega arith)

-- a bit 0 keeps the level
keeps_level : (bits : List Bool) (k : ℕ) → k < length bits → get_or bits k false ≡ false
    → level_at (level_word bits) (suc (suc (suc k))) ≡ level_at (level_word bits) (suc (suc k))
keeps_level bits k h e =
    get_or-levels_after true bits k h
    ∙ ap (λ b. level_for (flip b (is_high (level_at (level_word bits) (suc (suc k)))))) e
    ∙ level_for-is_high (level_at (level_word bits) (suc (suc k))) (level_at-is_level (level_word bits) (AreLevels-levels_after true bits) (suc (suc k)))

-- the bits at one place and two places before a 1 are 0
zero_before : (bits : List Bool) → AreSpaced bits → (k : ℕ) → get_or bits (suc k) false ≡ true → get_or bits k false ≡ false
zero_before bits spaced k one = elim (cases_Bool (get_or bits k false)) [
  | inl e ↦ let none = (spaced k e).0 in cc
  | inr e ↦ e
]

zero_two_before : (bits : List Bool) → AreSpaced bits → (k : ℕ) → get_or bits (suc (suc k)) false ≡ true → get_or bits k false ≡ false
zero_two_before bits spaced k one = elim (cases_Bool (get_or bits k false)) [
  | inl e ↦ let none = (spaced k e).1 in cc
  | inr e ↦ e
]

-- the two bits before a 1 are 0, and two 0s stand before the first
pub zeros_before : (bits : List Bool) → AreSpaced bits → (k : ℕ) → get_or bits k false ≡ true
    → (get_or (false ∷ false ∷ bits) (suc k) false ≡ false) × (get_or (false ∷ false ∷ bits) k false ≡ false)
zeros_before bits spaced zero one = (refl, refl)
zeros_before bits spaced (suc zero) one = (zero_before bits spaced 0 one, refl)
zeros_before bits spaced (suc (suc k)) one = (zero_before bits spaced (suc k) one, zero_two_before bits spaced k one)

pub IsAllowed-from_spaced : (bits : List Bool) → AreSpaced bits → IsAllowed (level_word bits)
IsAllowed-from_spaced bits spaced = record {
  levels = AreLevels-levels_after true bits;
  runs = λ k h. keeps k (omega (arith, length-levels_after true bits)) (cases_Bool (get_or bits k false));
}
  where
    keeps : (k : ℕ) → k < length bits → (get_or bits k false ≡ true) ⊎ (get_or bits k false ≡ false) → KeepsRuns (level_word bits) k
    keeps k h (inr e) = inl (keeps_level bits k h e)
    keeps zero h (inl e) = inr (refl, refl)
    keeps (suc zero) h (inl e) = inr (keeps_level bits 0 (omega arith) (zero_before bits spaced 0 e), refl)
    keeps (suc (suc k)) h (inl e) =
        inr (keeps_level bits (suc k) (omega arith) (zero_before bits spaced (suc k) e), keeps_level bits k (omega arith) (zero_two_before bits spaced k e))
