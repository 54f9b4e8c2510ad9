-- In the clean samples of an allowed word the starts are its changes of level, and no other word has them.
use Rattle.std.proofs.Common.{◌≡◌, ◌⊎◌, ◌↔◌, ℕ, zero, suc, ◌<◌, ◌≤◌, Bool, true, false, not, ◌&&◌, List, [], ◌∷◌, length, take, get_or, ℤ, pos, ◌-ℤ◌, ◌*ℤ◌, refl, sym, ap, ◌∙◌, inl, inr, arith}
use Rattle.std.proofs.lemmas.Bool.{cases_lt, false≢true}
use Rattle.std.proofs.lemmas.List.{ext_get_or, get_or-take, get_or_past, length-take-le}
use Rattle.std.proofs.lemmas.List.FromFn.{fill_by_all, length-map-range_with_len, get_or-map-range_with_len}
use Rattle.prml_viterbi.specs.Levels.{IsLevel, AreLevels, level_for, is_high, flip, bits_after, level_word, channel_bits, level_at, IsAllowed, AreSpaced, clean_at, clean_samples}
use Rattle.prml_viterbi.specs.Detected.{distance, AreOfAllowed, CleanSamplesHaveOneWord}
use Rattle.prml_viterbi.specs.Starts.{is_moved, is_start}
use Rattle.prml_viterbi.proofs.ChannelBits.{levels_after-bits_after}
use Rattle.prml_viterbi.proofs.Clean.{clean-from_distance, distance-clean, same_levels}
use Rattle.prml_viterbi.proofs.LevelWords.{level_at-is_level, level_for-is_high}
use Rattle.prml_viterbi.proofs.WordStarts.{no_start}
use Rattle.prml_viterbi.proofs.Traces.{is_high-level_for}

flip_self : (a : Bool) → flip a a ≡ false
flip_self true = refl
flip_self false = refl

length-bits_after : (high : Bool) (word : List ℤ) → length (bits_after high word) ≡ length word
length-bits_after high [] = refl
length-bits_after high (a ∷ word) = ap suc (length-bits_after (is_high a) word)

-- a bit says whether the level differs from the one before it
get_or-bits_after : (high : Bool) (word : List ℤ) (k : ℕ) → AreLevels word → k < length word
    → get_or (bits_after high word) k false ≡ flip (is_high (get_or (level_for high ∷ word) k (pos 1))) (is_high (get_or word k (pos 1)))
get_or-bits_after high [] k levels h = absurd (omega arith)
get_or-bits_after high (a ∷ word) zero levels h = ap (λ b. flip b (is_high a)) (sym (is_high-level_for high))
get_or-bits_after high (a ∷ word) (suc k) levels h =
    get_or-bits_after (is_high a) word k (λ i d less. levels (suc i) d (omega arith)) (omega arith)
    ∙ ap (λ x. flip (is_high (get_or (x ∷ word) k (pos 1))) (is_high (get_or word k (pos 1)))) (level_for-is_high a (levels 0 (pos 1) (omega arith)))

-- a clean sample isn't 0 where its two levels differ
moved_is : (a c : ℤ) → IsLevel a → IsLevel c → is_moved (pos 16 *ℤ (a -ℤ c)) ≡ flip (is_high c) (is_high a)
moved_is a c (inl e) (inl f) = rw (e, f) refl
moved_is a c (inl e) (inr f) = rw (e, f) refl
moved_is a c (inr e) (inl f) = rw (e, f) refl
moved_is a c (inr e) (inr f) = rw (e, f) refl

three_same : (a d : Bool) → (flip a d && not (flip a a)) ≡ flip a d
three_same true true = refl
three_same true false = refl
three_same false true = refl
three_same false false = refl

never_both : (a c : Bool) → (flip a c && not (flip a c)) ≡ flip c c
never_both true true = refl
never_both true false = refl
never_both false true = refl
never_both false false = refl

none_here : (a b : Bool) → (flip b b && not (flip a b)) ≡ flip b b
none_here true true = refl
none_here true false = refl
none_here false true = refl
none_here false false = refl

-- of four levels in a row whose runs are kept
start_is : (a b c d : Bool) → (d ≡ c) ⊎ ((c ≡ b) × (b ≡ a)) → (c ≡ b) ⊎ (b ≡ a) → (flip b d && not (flip a c)) ≡ flip c d
start_is a b c d (inl e) (inl f) = rw (e, f) (none_here a b)
start_is a b c d (inl e) (inr f) = rw (e, f) (never_both a c)
start_is a b c d (inr e) q = rw (e.0, e.1) (three_same a d)

pub starts_are_bits : (word : List ℤ) → IsAllowed word → (k : ℕ) → is_start (clean_samples word) k ≡ get_or (channel_bits word) k false
starts_are_bits word allowed k = elim (cases_lt k (length word)) [
  | inl inside ↦
      ap (λ x. is_moved x && not (is_moved (get_or (pos 0 ∷ clean_samples word) k (pos 0)))) (sample k inside)
      ∙ ap (λ b. b && not (is_moved (get_or (pos 0 ∷ clean_samples word) k (pos 0)))) (moved k)
      ∙ ap (λ b. flip (high (suc k)) (high (suc (suc (suc k)))) && not b) (earlier k inside)
      ∙ start_is (high k) (high (suc k)) (high (suc (suc k))) (high (suc (suc (suc k)))) (here k inside) (before k inside)
      ∙ sym (get_or-bits_after true word k allowed.levels inside)
  | inr past ↦
      no_start (clean_samples word) k (omega (arith, length-map-range_with_len (clean_at word) 0 (length word)))
      ∙ sym (get_or_past (channel_bits word) k false (omega (arith, length-bits_after true word)))
]
  where
    high : ℕ → Bool
    high k = is_high (level_at word k)

    sample : (k : ℕ) → k < length word → get_or (clean_samples word) k (pos 0) ≡ clean_at word k
    sample k inside = get_or-map-range_with_len (clean_at word) 0 (length word) k k (pos 0) inside (omega arith)

    moved : (k : ℕ) → is_moved (clean_at word k) ≡ flip (is_high (level_at word (suc k))) (is_high (level_at word (suc (suc (suc k)))))
    moved k = moved_is (level_at word (suc (suc (suc k)))) (level_at word (suc k)) (level_at-is_level word allowed.levels (suc (suc (suc k)))) (level_at-is_level word allowed.levels (suc k))

    earlier : (k : ℕ) → k < length word → is_moved (get_or (pos 0 ∷ clean_samples word) k (pos 0)) ≡ flip (is_high (level_at word k)) (is_high (level_at word (suc (suc k))))
    earlier zero inside = refl
    earlier (suc k) inside = ap is_moved (sample k (omega arith)) ∙ moved k

    here : (k : ℕ) → k < length word
        → (is_high (level_at word (suc (suc (suc k)))) ≡ is_high (level_at word (suc (suc k)))) ⊎ ((is_high (level_at word (suc (suc k))) ≡ is_high (level_at word (suc k))) × (is_high (level_at word (suc k)) ≡ is_high (level_at word k)))
    here k inside = elim (allowed.runs k inside) [ inl e ↦ inl (ap is_high e) | inr e ↦ inr (ap is_high e.0, ap is_high e.1) ]

    before : (k : ℕ) → k < length word → (is_high (level_at word (suc (suc k))) ≡ is_high (level_at word (suc k))) ⊎ (is_high (level_at word (suc k)) ≡ is_high (level_at word k))
    before zero inside = inl refl
    before (suc k) inside = elim (here k (omega arith)) [ inl e ↦ inl e | inr e ↦ inr e.0 ]

-- the channel bits of an allowed word have two 0s after each 1
pub AreSpaced-from_allowed : (word : List ℤ) → IsAllowed word → AreSpaced (channel_bits word)
AreSpaced-from_allowed word allowed k one = elim (cases_lt k (length word)) [
  | inl inside ↦ (next inside (cases_lt (suc k) (length word)), after_next inside (cases_lt (suc (suc k)) (length word)))
  | inr past ↦ absurd (false≢true (sym (get_or_past (channel_bits word) k false (omega (arith, length-bits_after true word))) ∙ one))
]
  where
    changes : k < length word → level_at word (suc (suc (suc k))) ≡ level_at word (suc (suc k)) → ⊥
    changes inside e =
        false≢true (sym (flip_self (is_high (level_at word (suc (suc k))))) ∙ ap (λ x. flip (is_high (level_at word (suc (suc k)))) (is_high x)) (sym e) ∙ sym (get_or-bits_after true word k allowed.levels inside) ∙ one)

    zero_at : (p : ℕ) → p < length word → level_at word (suc (suc (suc p))) ≡ level_at word (suc (suc p)) → get_or (channel_bits word) p false ≡ false
    zero_at p inside e = get_or-bits_after true word p allowed.levels inside ∙ ap (λ x. flip (is_high (level_at word (suc (suc p)))) (is_high x)) e ∙ flip_self (is_high (level_at word (suc (suc p))))

    past_at : (p : ℕ) → length word ≤ p → get_or (channel_bits word) p false ≡ false
    past_at p past = get_or_past (channel_bits word) p false (omega (arith, length-bits_after true word))

    next : k < length word → (suc k < length word) ⊎ (length word ≤ suc k) → get_or (channel_bits word) (suc k) false ≡ false
    next inside (inr past) = past_at (suc k) past
    next inside (inl more) = elim (allowed.runs (suc k) more) [ inl e ↦ zero_at (suc k) more e | inr e ↦ absurd (changes inside e.0) ]

    after_next : k < length word → (suc (suc k) < length word) ⊎ (length word ≤ suc (suc k)) → get_or (channel_bits word) (suc (suc k)) false ≡ false
    after_next inside (inr past) = past_at (suc (suc k)) past
    after_next inside (inl more) = elim (allowed.runs (suc (suc k)) more) [ inl e ↦ zero_at (suc (suc k)) more e | inr e ↦ absurd (changes inside e.1) ]

-- where bits are the starts of an allowed word's clean samples, they are its channel bits
pub word_from_starts : (samples : List ℤ) (bits : List Bool) → length samples ≤ length bits → ((k : ℕ) → get_or bits k false ≡ is_start samples k) → AreOfAllowed samples
    → AreSpaced bits × (samples ≡ clean_samples (level_word (take (length samples) bits)))
word_from_starts samples bits room starts (word, allowed, clean) = (spaced, clean ∙ ap clean_samples (sym (levels_after-bits_after true word allowed.levels)) ∙ ap (λ b. clean_samples (level_word b)) (sym taken))
  where
    same : (k : ℕ) → get_or bits k false ≡ get_or (channel_bits word) k false
    same k = starts k ∙ ap (λ s. is_start s k) clean ∙ starts_are_bits word allowed k

    spaced : AreSpaced bits
    spaced k one =
        let zeros = AreSpaced-from_allowed word allowed k (sym (same k) ∙ one) in
        (same (suc k) ∙ zeros.0, same (suc (suc k)) ∙ zeros.1)

    long : length samples ≡ length word
    long = ap length clean ∙ length-map-range_with_len (clean_at word) 0 (length word)

    taken : take (length samples) bits ≡ channel_bits word
    taken =
        let short : length (take (length samples) bits) ≡ length samples = length-take-le (length samples) bits room in
        ext_get_or false (take (length samples) bits) (channel_bits word) (short ∙ long ∙ sym (length-bits_after true word))
        (λ k less. get_or-take (length samples) bits k false (omega arith) ∙ same k)

pub clean_samples_have_one_word : CleanSamplesHaveOneWord
clean_samples_have_one_word = record { none_apart = none_apart; one = one }
  where
    place : (word : List ℤ) (k : ℕ) → k < length word → get_or (clean_samples word) k (pos 0) ≡ clean_at word k
    place word k inside = get_or-map-range_with_len (clean_at word) 0 (length word) k k (pos 0) inside (omega arith)

    none_apart : (samples word : List ℤ) → length word ≡ length samples → (distance samples word ≡ 0) ↔ (samples ≡ clean_samples word)
    none_apart samples word long = (
      λ none. fill_by_all (clean_at word) samples (length word) (pos 0) (sym long) (λ k less. clean-from_distance samples word (length samples) none k (omega arith)),
      λ clean. distance-clean samples word (length samples) (λ k less. ap (λ s. get_or s k (pos 0)) clean ∙ place word k (omega arith)),
    )

    one : (word other : List ℤ) → clean_samples word ≡ clean_samples other → word ≡ other
    one word other same =
        let long : length word ≡ length other = sym (length-map-range_with_len (clean_at word) 0 (length word)) ∙ ap length same ∙ length-map-range_with_len (clean_at other) 0 (length other) in
        ext_get_or (pos 1) word other long
        (λ k less. (same_levels word other (length word) (λ j inside. sym (place word j inside) ∙ ap (λ s. get_or s j (pos 0)) same ∙ place other j (omega arith)) (suc k) (omega arith)).1)
