-- Tests of clean places: what a test of one says, and one more.
use Rattle.std.proofs.Common.{◌≡◌, ℕ, suc, ◌+◌, ◌<◌, ◌≤◌, Bool, ◌&&◌, eqb, List, length, ℤ, pos, ◌-ℤ◌, ◌*ℤ◌, get_or, to_z, of_z, sym, ap, ◌∙◌, subst, inl, inr, Decides, w8, w16, arith}
use mir.Val.{SFits}
use mir.Syntax.{Width}
use Rattle.std.proofs.lemmas.Int.{ints, to_z-of_z}
use Rattle.std.proofs.lemmas.Bool.{eqb-true, eq-eqb, cases_lt}
use Rattle.std.proofs.lemmas.Bool.Decides.{Decides-and, Decides-like}
use Rattle.std.proofs.lemmas.List.{get_or_default}
use Rattle.prml_viterbi.specs.Levels.{IsLevel, level_at, IsAllowed}
use Rattle.prml_viterbi.specs.Clean.{Follows, IsCleanAt, AreClean}

-- numbers are equal where their bits are
pub Decides-same_bits : (w : Width) (a b : ℤ) → SFits w a → SFits w b → Decides (eqb (of_z w a) (of_z w b)) (a ≡ b)
Decides-same_bits w a b f g =
    (λ e. sym (to_z-of_z w a f) ∙ ap (to_z w) (eqb-true _ _ e) ∙ to_z-of_z w b g, λ e. eq-eqb _ _ (ap (of_z w) e))

-- the code's test of a clean sample, in 16 bits
pub Decides-clean_test : (sample level two a b c : ℤ) → SFits w8 sample → SFits w8 level → SFits w8 two → a ≡ sample → b ≡ level → c ≡ two
    → Decides (eqb (of_z w16 a) (of_z w16 (pos 16 *ℤ to_z w16 (of_z w16 (to_z w16 (of_z w16 b) -ℤ to_z w16 (of_z w16 c)))))) (sample ≡ pos 16 *ℤ (level -ℤ two))
Decides-clean_test sample level two a b c f g h d e i =
    let sample_fits : SFits w16 sample = omega (arith, ints) in
    let level_fits : SFits w16 level = omega (arith, ints) in
    let two_fits : SFits w16 two = omega (arith, ints) in
    let difference : SFits w16 (level -ℤ two) = omega (arith, ints) in
    let product : SFits w16 (pos 16 *ℤ (level -ℤ two)) = omega (arith, ints) in
    rw (d, e, i, to_z-of_z w16 level level_fits, to_z-of_z w16 two two_fits, to_z-of_z w16 (level -ℤ two) difference)
    (Decides-same_bits w16 sample (pos 16 *ℤ (level -ℤ two)) sample_fits product)

-- the level at a place within the word, by the word's own place
pub level_in_word : (word : List ℤ) (i j : ℕ) → i ≡ suc (suc (suc j)) → j < length word → get_or word j (pos 0) ≡ level_at word i
level_in_word word i j e h = rw e (get_or_default word j (pos 0) (pos 1) h)

-- a test of the values there tests the place
pub Decides-place : (samples word : List ℤ) (k : ℕ) (r : Bool) (sample level one two three : ℤ)
    → sample ≡ get_or samples k (pos 0) → level ≡ level_at word (suc (suc (suc k))) → one ≡ level_at word (suc (suc k)) → two ≡ level_at word (suc k) → three ≡ level_at word k
    → Decides r (Follows sample level one two three) → Decides r (IsCleanAt samples word k)
Decides-place samples word k r sample level one two three a b c d e h = rw (a, b, c, d, e) at h

-- one place more is clean
pub Decides-places_more : (samples word : List ℤ) (first k : ℕ) (clean here : Bool) → first ≤ k → k < length samples
    → Decides clean ((j : ℕ) → first ≤ j → j < k → j < length samples → IsCleanAt samples word j)
    → Decides here (IsCleanAt samples word k)
    → Decides (clean && here) ((j : ℕ) → first ≤ j → j < k + 1 → j < length samples → IsCleanAt samples word j)
Decides-places_more samples word first k clean here low inside so_far this =
    Decides-like (clean && here)
    (λ p j a b c. elim (cases_lt j k) [
      | inl less ↦ p.0 j a less c
      | inr last ↦ let same : k ≡ j = omega arith in subst (IsCleanAt samples word) same p.1
    ])
    (λ f. (λ j a b c. f j a (omega arith) c, f k low (omega arith) inside))
    (Decides-and clean here so_far this)

-- where each place is clean, the word is allowed and these are its clean samples
pub IsAllowed-from_clean : (samples word : List ℤ) → length word ≡ length samples → AreClean samples word → IsAllowed word
IsAllowed-from_clean samples word long clean = record {
  levels = λ k d h. subst IsLevel (get_or_default word k (pos 1) d h) (clean k (omega arith)).is_level;
  runs = λ k h. (clean k (omega arith)).run;
}
