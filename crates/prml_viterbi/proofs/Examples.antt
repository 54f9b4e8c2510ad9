-- What the definitions say of the worked rows, and of words that break each rule.
use Rattle.std.proofs.Common.{◌≡◌, ◌⊎◌, ℕ, zero, suc, ◌<◌, true, false, List, [], ◌∷◌, ℤ, pos, negsuc, get_or, refl, inl, inr, lit<, arith}
use Rattle.prml_viterbi.specs.Levels.{level_word, channel_bits, clean_samples, IsAllowed, AreLevels, AreSpaced, level_at}
use Rattle.prml_viterbi.specs.Detected.{distance, ComesBefore, IsDetected}
use Rattle.prml_viterbi.proofs.Clean.{not_both_before}

low_four : List ℤ
low_four = negsuc 0 ∷ negsuc 0 ∷ negsuc 0 ∷ negsuc 0 ∷ []

bits_to_levels : level_word (true ∷ false ∷ false ∷ false ∷ []) ≡ low_four
unfolding low_four
bits_to_levels = refl

levels_to_bits : channel_bits low_four ≡ true ∷ false ∷ false ∷ false ∷ []
unfolding low_four
levels_to_bits = refl

levels_to_samples : clean_samples low_four ≡ negsuc 31 ∷ negsuc 31 ∷ pos 0 ∷ pos 0 ∷ []
unfolding low_four
levels_to_samples = refl

-- -32, -12, 4, 0, 20, 32, 0, 0 and its detected word
eight_samples : List ℤ
eight_samples = negsuc 31 ∷ negsuc 11 ∷ pos 4 ∷ pos 0 ∷ pos 20 ∷ pos 32 ∷ pos 0 ∷ pos 0 ∷ []

low_then_high : List ℤ
low_then_high = negsuc 0 ∷ negsuc 0 ∷ negsuc 0 ∷ negsuc 0 ∷ pos 1 ∷ pos 1 ∷ pos 1 ∷ pos 1 ∷ []

far_by_560 : distance eight_samples low_then_high ≡ 560
unfolding eight_samples low_then_high
far_by_560 = refl

-- the first level may flip, since three levels +1 stand before it
one_low : IsAllowed (negsuc 0 ∷ [])
one_low = record { levels = levels; runs = runs }
  where
    levels : AreLevels (negsuc 0 ∷ [])
    levels zero d h = inr refl
    levels (suc k) d h = absurd (omega arith)

    runs : (k : ℕ) → k < 1 → (level_at (negsuc 0 ∷ []) (suc (suc (suc k))) ≡ level_at (negsuc 0 ∷ []) (suc (suc k))) ⊎ ((level_at (negsuc 0 ∷ []) (suc (suc k)) ≡ level_at (negsuc 0 ∷ []) (suc k)) × (level_at (negsuc 0 ∷ []) (suc k) ≡ level_at (negsuc 0 ∷ []) k))
    runs zero h = inr (refl, refl)
    runs (suc k) h = absurd (omega arith)

-- a run of one level that isn't the last is not allowed, nor one of two
run_of_one : IsAllowed (negsuc 0 ∷ pos 1 ∷ []) → ⊥
run_of_one h = elim (h.runs 1 (lit< tt)) [ inl e ↦ cc | inr e ↦ let f = e.0 in cc ]

run_of_two : IsAllowed (negsuc 0 ∷ negsuc 0 ∷ pos 1 ∷ []) → ⊥
run_of_two h = elim (h.runs 2 (lit< tt)) [ inl e ↦ cc | inr e ↦ let f = e.1 in cc ]

-- 0 is no level
no_level : IsAllowed (pos 0 ∷ []) → ⊥
no_level h = elim (h.levels 0 (pos 1) (lit< tt)) [ inl e ↦ cc | inr e ↦ cc ]

-- the sample -16 is as far from -1 as from +1, and -1 comes first
tie_is_as_far : distance (negsuc 15 ∷ []) (negsuc 0 ∷ []) ≡ distance (negsuc 15 ∷ []) (pos 1 ∷ [])
tie_is_as_far = refl

low_comes_first : ComesBefore (negsuc 0 ∷ []) (pos 1 ∷ [])
low_comes_first = record { place = 0; inside = lit< tt; low = refl; high = refl; same_after = after }
  where
    after : (k : ℕ) → 0 < k → get_or (negsuc 0 ∷ []) k (pos 1) ≡ get_or (pos 1 ∷ []) k (pos 1)
    after zero h = absurd (omega arith)
    after (suc k) h = refl

high_is_not_detected : IsDetected (negsuc 15 ∷ []) (pos 1 ∷ []) → ⊥
high_is_not_detected h = elim (h.least (negsuc 0 ∷ []) one_low refl) [
  | inl e ↦ cc
  | inr better ↦ elim better [ inl less ↦ absurd (omega arith) | inr before ↦ not_both_before (negsuc 0 ∷ []) (pos 1 ∷ []) low_comes_first before.1 ]
]

-- a 1 with fewer than two 0s after it and another 1 is not spaced
next_to_each_other : AreSpaced (true ∷ true ∷ []) → ⊥
next_to_each_other h = let e = (h 0 refl).0 in cc

one_zero_between : AreSpaced (true ∷ false ∷ true ∷ []) → ⊥
one_zero_between h = let e = (h 0 refl).1 in cc
