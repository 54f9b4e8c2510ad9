-- Channel bits in words of which each 1 has two 0s before it, and samples that are the clean ones of channel bits.
use Rattle.std.proofs.Common.{◌≡◌, ◌⊎◌, min, ℕ, zero, suc, ◌+◌, ◌-◌, ◌*◌, ◌^◌, ◌/◌, ◌%◌, ◌<◌, ◌≤◌, Bool, true, false, ◌&&◌, eqb, List, ◌∷◌, length, take, get_or, ℤ, pos, bit_and, bit_or, refl, sym, subst, ap, ◌∙◌, inl, inr, eqb-true, Decides, below_more, length-take, arith}
use Rattle.std.specs.Int.{bit_at}
use Rattle.std.proofs.lemmas.Bool.{cases_lt, cases_Bool, eq-eqb, false≢true}
use Rattle.std.proofs.lemmas.Bool.Decides.{Decides-and, Decides-like}
use Rattle.std.proofs.lemmas.List.{get_or-take, get_or_past}
use Rattle.std.proofs.lemmas.Nat.{shr-shr}
use Rattle.std.proofs.lemmas.Nat.Bits.{bit_at-lt, bit_at-suc, bit_at-zero, bit_at_above, bit_at_and, bit_at_or, same_from_bits}
use Rattle.bit_words.specs.Words.{word_bits}
use Rattle.bit_words.proofs.BitLists.{bit_at-mod, get_or-word_bits}
use Rattle.prml_viterbi.specs.Levels.{AreSpaced, level_word, clean_samples}
use Rattle.prml_viterbi.specs.LevelBits.{IsApart}
use Rattle.prml_viterbi.specs.Detected.{IsDetected, HaveDetectedBits}
use Rattle.prml_viterbi.proofs.ChannelBits.{IsAllowed-from_spaced, bits_after-levels_after, zeros_before}
use Rattle.prml_viterbi.proofs.Clean.{clean_samples_tell}
use Rattle.prml_viterbi.proofs.LevelNumbers.{above_two, two_below}
use Rattle.prml_viterbi.proofs.WordStarts.{bit_zero}

-- the bits of the two numbers that a word's test looks at
early_bit : (w before early k : ℕ) → before < 4 → early ≡ w % 2 ^ 62 * 4 + before → k < 64 → bit_at early k ≡ bit_at (4 * w + before) k
early_bit w before early k small is below =
    let e : early ≡ (4 * w + before) % 2 ^ 64 = omega arith in
    ap (λ n. bit_at n k) e ∙ bit_at-mod (4 * w + before) 64 k below

middle_bit : (w before middle k : ℕ) → before < 4 → middle ≡ w % 2 ^ 63 * 2 + before / 2 → k < 64 → bit_at middle k ≡ bit_at (4 * w + before) (k + 1)
middle_bit w before middle k small is below =
    let t = 4 * w + before in
    let e : middle ≡ t / 2 % 2 ^ 64 = omega arith in
    let next : suc k ≡ k + 1 = omega arith in
    ap (λ n. bit_at n k) e ∙ bit_at-mod (t / 2) 64 k below ∙ sym (bit_at-suc t k) ∙ ap (bit_at t) next

-- a word's test says whether its 1s stand apart
pub Decides-apart : (w before early middle : ℕ) → w < 2 ^ 64 → before < 4 → early ≡ w % 2 ^ 62 * 4 + before → middle ≡ w % 2 ^ 63 * 2 + before / 2
    → Decides (eqb (bit_and w (bit_or early middle)) 0) (IsApart w before)
Decides-apart w before early middle fits small is_early is_middle = (λ yes. apart (eqb-true _ _ yes), λ stand. eq-eqb _ _ (none stand))
  where
    apart : bit_and w (bit_or early middle) ≡ 0 → IsApart w before
    apart none k below one =
        let both : bit_at (bit_and w (bit_or early middle)) k ≡ 0 = ap (λ n. bit_at n k) none ∙ bit_at-zero k in
        let and = bit_at_and w (bit_or early middle) k in
        let or = bit_at_or early middle k in
        let less = bit_at-lt (bit_or early middle) k in
        let zero_early : bit_at early k ≡ 0 = omega arith in
        let zero_middle : bit_at middle k ≡ 0 = omega arith in
        (sym (middle_bit w before middle k small is_middle below) ∙ zero_middle, sym (early_bit w before early k small is_early below) ∙ zero_early)

    none : IsApart w before → bit_and w (bit_or early middle) ≡ 0
    none stand = same_from_bits (bit_and w (bit_or early middle)) 0 (λ k. bit_at_and w (bit_or early middle) k ∙ zero_bit k (cases_lt 0 (bit_at w k)) ∙ sym (bit_at-zero k))
      where
        zero_bit : (k : ℕ) → (0 < bit_at w k) ⊎ (bit_at w k ≤ 0) → min (bit_at w k) (bit_at (bit_or early middle) k) ≡ 0
        zero_bit k (inr off) = omega arith
        zero_bit k (inl on) = elim (cases_lt k 64) [
          | inl below ↦
              let zeros = stand k below (omega (arith, bit_at-lt w k)) in
              let e : bit_at early k ≡ 0 = early_bit w before early k small is_early below ∙ zeros.1 in
              let m : bit_at middle k ≡ 0 = middle_bit w before middle k small is_middle below ∙ zeros.0 in
              omega (arith, bit_at_or early middle k)
          | inr above ↦ let z : bit_at w k ≡ 0 = bit_at_above w 64 k fits above in omega arith
        ]

-- the bits of words behind two 0s
abbrev pub fronted : List ℕ → List Bool
fronted words = false ∷ false ∷ word_bits words

-- the two bits before a word are known
abbrev pub AreBefore : List ℕ → ℕ → ℕ → Type 0
AreBefore words j before = (m : ℕ) → m < 2 → get_or (fronted words) (64 * j + m) false ≡ eqb (bit_at before m) 1

-- the 1s among the first bits have two 0s before them
abbrev pub AreApartTo : List ℕ → ℕ → Type 0
AreApartTo words count = (p : ℕ) → p < count → get_or (word_bits words) p false ≡ true → (get_or (fronted words) (p + 1) false ≡ false) × (get_or (fronted words) p false ≡ false)

pub before_none : (words : List ℕ) → AreBefore words 0 0
before_none words zero below = refl
before_none words (suc zero) below = refl
before_none words (suc (suc m)) below = absurd (omega arith)

fronted_at : (words : List ℕ) (j before m : ℕ) → j < length words → before < 4 → AreBefore words j before → m < 66 → get_or (fronted words) (64 * j + m) false ≡ eqb (bit_at (4 * get_or words j 0 + before) m) 1
fronted_at words j before zero inside small is below = is 0 (omega arith) ∙ ap (λ b. eqb b 1) (sym (two_below (get_or words j 0) before 0 (omega arith)))
fronted_at words j before (suc zero) inside small is below = is 1 (omega arith) ∙ ap (λ b. eqb b 1) (sym (two_below (get_or words j 0) before 1 (omega arith)))
fronted_at words j before (suc (suc k)) inside small is below =
    let w = get_or words j 0 in
    let e : 64 * j + suc (suc k) ≡ suc (suc (64 * j + k)) = omega arith in
    let two : k + 2 ≡ suc (suc k) = omega arith in
    ap (λ i. get_or (fronted words) i false) e
    ∙ get_or-word_bits words j k inside (omega arith)
    ∙ ap (λ b. eqb b 1) (sym (above_two w before k small) ∙ ap (bit_at (4 * w + before)) two)

pub apart_more : (words : List ℕ) (j before : ℕ) → j < length words → before < 4 → AreBefore words j before → IsApart (get_or words j 0) before → AreApartTo words (64 * j) → AreApartTo words (64 * (j + 1))
apart_more words j before inside small is apart so_far p below one = elim (cases_lt p (64 * j)) [
  | inl low ↦ so_far p low one
  | inr high ↦ here (p - 64 * j) (omega arith) (omega arith)
]
  where
    here : (k : ℕ) → 64 * j + k ≡ p → k < 64 → (get_or (fronted words) (p + 1) false ≡ false) × (get_or (fronted words) p false ≡ false)
    here k place low =
        let w = get_or words j 0 in
        let set_bit : eqb (bit_at w k) 1 ≡ true = sym (get_or-word_bits words j k inside low) ∙ ap (λ i. get_or (word_bits words) i false) place ∙ one in
        let zeros = apart k low (eqb-true (bit_at w k) 1 set_bit) in
        let next : 64 * j + (k + 1) ≡ p + 1 = omega arith in (
          ap (λ i. get_or (fronted words) i false) (sym next) ∙ fronted_at words j before (k + 1) inside small is (omega arith) ∙ ap (λ b. eqb b 1) zeros.0,
          ap (λ i. get_or (fronted words) i false) (sym place) ∙ fronted_at words j before k inside small is (omega arith) ∙ ap (λ b. eqb b 1) zeros.1,
        )

pub before_next : (words : List ℕ) (j before : ℕ) → j < length words → before < 4 → AreBefore words j before → AreBefore words (j + 1) (get_or words j 0 / 2 ^ 62)
before_next words j before inside small is m below =
    let w = get_or words j 0 in
    let e : 64 * (j + 1) + m ≡ 64 * j + (62 + m + 2) = omega arith in
    ap (λ i. get_or (fronted words) i false) e
    ∙ fronted_at words j before (62 + m + 2) inside small is (omega arith)
    ∙ ap (λ b. eqb b 1) (above_two w before (62 + m) small ∙ ap (λ n. n % 2) (sym (shr-shr w 62 m)))

-- in bits that are spaced each word stands apart
pub apart_in_spaced : (words : List ℕ) (j before : ℕ) → j < length words → before < 4 → AreBefore words j before → AreSpaced (word_bits words) → IsApart (get_or words j 0) before
apart_in_spaced words j before inside small is spaced k below one =
    let t = 4 * get_or words j 0 + before in
    let one_there : get_or (word_bits words) (64 * j + k) false ≡ true = get_or-word_bits words j k inside below ∙ ap (λ b. eqb b 1) one in
    let zeros = zeros_before (word_bits words) spaced (64 * j + k) one_there in
    let next : 64 * j + (k + 1) ≡ suc (64 * j + k) = omega arith in (
      bit_zero (bit_at t (k + 1)) (bit_at-lt t (k + 1)) (sym (fronted_at words j before (k + 1) inside small is (omega arith)) ∙ ap (λ i. get_or (fronted words) i false) next ∙ zeros.0),
      bit_zero (bit_at t k) (bit_at-lt t k) (sym (fronted_at words j before k inside small is (omega arith)) ∙ zeros.1),
    )

pub spaced_from : (words : List ℕ) (count : ℕ) → length (word_bits words) ≤ count → AreApartTo words count → AreSpaced (word_bits words)
spaced_from words count all apart k one =
    let e : suc (suc k) ≡ suc k + 1 = omega arith in (
      none (suc k) (λ p inside. ap (λ q. get_or (fronted words) q false) e ∙ (apart (suc k) (omega arith) p).0),
      none (suc (suc k)) (λ p inside. (apart (suc (suc k)) (omega arith) p).1),
    )
  where
    none : (p : ℕ) → (get_or (word_bits words) p false ≡ true → p < length (word_bits words) → get_or (word_bits words) k false ≡ false) → get_or (word_bits words) p false ≡ false
    none p then = elim (cases_lt p (length (word_bits words))) [
      | inr past ↦ get_or_past (word_bits words) p false past
      | inl inside ↦ elim (cases_Bool (get_or (word_bits words) p false)) [
        | inl e ↦ absurd (false≢true (sym (then e inside) ∙ one))
        | inr e ↦ e
      ]
    ]

-- a beginning of spaced bits is spaced
pub AreSpaced-take : (bits : List Bool) (n : ℕ) → AreSpaced bits → AreSpaced (take n bits)
AreSpaced-take bits n spaced k one = elim (cases_lt k n) [
  | inl inside ↦
      let zeros = spaced k (sym (get_or-take n bits k false inside) ∙ one) in
      (kept (suc k) zeros.0, kept (suc (suc k)) zeros.1)
  | inr past ↦ absurd (false≢true (sym (cut k past) ∙ one))
]
  where
    cut : (p : ℕ) → n ≤ p → get_or (take n bits) p false ≡ false
    cut p past = get_or_past (take n bits) p false (omega (arith, length-take n bits))

    kept : (p : ℕ) → get_or bits p false ≡ false → get_or (take n bits) p false ≡ false
    kept p e = elim (cases_lt p n) [ inl inside ↦ get_or-take n bits p false inside ∙ e | inr past ↦ cut p past ]

-- one sample more is the same
pub same_more : (a : List ℤ) (f : ℕ → ℤ) (k : ℕ) (so_far here : Bool) → Decides so_far ((j : ℕ) → j < k → get_or a j (pos 0) ≡ f j) → Decides here (get_or a k (pos 0) ≡ f k)
    → Decides (so_far && here) ((j : ℕ) → j < k + 1 → get_or a j (pos 0) ≡ f j)
same_more a f k so_far here before now =
    Decides-like (so_far && here) (λ p. below_more (λ j. get_or a j (pos 0) ≡ f j) k p.0 p.1) (λ g. (λ j h. g j (omega arith), g k (omega arith))) (Decides-and so_far here before now)

-- samples that are the clean ones of channel bits with two 0s behind each 1
pub detected_bits : (samples : List ℤ) (bits : List Bool) → AreSpaced bits → samples ≡ clean_samples (level_word bits) → HaveDetectedBits samples bits
detected_bits samples bits spaced clean =
    let word = level_word bits in
    (word, subst (λ s. IsDetected s word) (sym clean) (clean_samples_tell word (IsAllowed-from_spaced bits spaced)), bits_after-levels_after true bits)
