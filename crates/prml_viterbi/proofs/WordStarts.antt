-- Where samples begin to differ from 0, by words of bits.
use Rattle.std.proofs.Common.{◌≡◌, ◌≢◌, ◌⊎◌, ℕ, zero, suc, ◌+◌, ◌-◌, ◌*◌, ◌/◌, ◌^◌, ◌%◌, ◌<◌, ◌≤◌, min, Bool, true, false, not, ◌&&◌, eqb, cond, List, ◌∷◌, ◌++◌, map, length, take, drop, set, get_or, ℤ, pos, of_z, w8, refl, sym, subst, ap, ◌∙◌, inl, inr, bit_and, bit_or, get_or-set_same, get_or-set_other, length-take, length-drop, length-append, lit≤, arith}
use Rattle.std.specs.Int.{bit_at, bit_not, w64}
use Rattle.std.specs.Simd.Lanes.{mask_l, zip2, top}
use Rattle.std.specs.Prelude.{replicate}
use Rattle.std.proofs.Math.ListN.{get_or-map}
use Rattle.std.proofs.Math.Seq.{take-add}
use Rattle.std.proofs.lemmas.Bool.{cases_lt}
use Rattle.std.proofs.lemmas.List.{get_or-take, get_or-drop, get_or_past, get_or-append_right, get_or_append_left, length-map, length-take-le, take_all}
use Rattle.std.proofs.lemmas.Nat.{or_lt}
use Rattle.std.proofs.lemmas.Nat.Bits.{bit_at-lt, bit_at-suc, bit_at-zero, bit_at_above, bit_at_and, bit_at_lowest, bit_at_not, bit_at_or}
use Rattle.std.proofs.lemmas.Simd.{bit_mask_l, bitmask_splat, map-map}
use borrow.Rule.Slice.PartMut.{put_mid}
use Rattle.bit_words.specs.Words.{word_bits}
use Rattle.bit_words.proofs.BitLists.{get_or-word_bits, length-word_bits}
use Rattle.prml_viterbi.specs.Starts.{is_moved, is_start, MarksMoved, MarksStarts}
use Rattle.prml_viterbi.proofs.LevelNumbers.{shifted_high, shifted_low}

pub bit_zero : (b : ℕ) → b < 2 → eqb b 1 ≡ false → b ≡ 0
bit_zero zero small e = refl
bit_zero (suc zero) small e = cc
bit_zero (suc (suc b)) small e = absurd (omega arith)

cond_bit : (b : Bool) → eqb (cond b 1 0) 1 ≡ b
cond_bit true = refl
cond_bit false = refl

-- the lanes' mask
pub lanes_mark : (samples : List ℤ) → length samples ≡ 16
    → MarksMoved samples (mask_l (map (top 7) (zip2 (λ a b. cond (not (eqb a b)) 255 0) (map (of_z w8) (take 16 samples)) (replicate 16 0))) % 2 ^ 64)
lanes_mark samples long k below =
    let f : ℤ → Bool = λ z. not (eqb (of_z w8 z) 0) in
    let lanes = map (of_z w8) (take 16 samples) in
    let all : take 16 samples ≡ samples = take_all 16 samples (omega arith) in
    let sixteen : length lanes ≡ 16 = simp (length-map, all) long in
    let bits : mask_l (map (top 7) (zip2 (λ a b. cond (not (eqb a b)) 255 0) lanes (replicate 16 0))) % 2 ^ 64 ≡ mask_l (map f samples) =
    bitmask_splat w8 (λ a b. not (eqb a b)) lanes 16 0 sixteen (lit≤ tt) ∙ ap mask_l (map-map (λ x. not (eqb x 0)) (of_z w8) (take 16 samples)) ∙ ap (λ l. mask_l (map f l)) all in
    ap (λ n. eqb (bit_at n k) 1) bits
    ∙ ap (λ n. eqb n 1) (bit_mask_l (map f samples) k)
    ∙ cond_bit (get_or (map f samples) k false)
    ∙ get_or-map f samples k (pos 0)

-- two words side by side
joined : (xs ys : List ℤ) (a b m : ℕ) → length xs ≡ m → MarksMoved xs a → MarksMoved ys b → MarksMoved (xs ++ ys) (bit_or a (b * 2 ^ m % 2 ^ 64))
joined xs ys a b m long first second k below = by_place (cases_lt k m)
  where
    by_place : (k < m) ⊎ (m ≤ k) → eqb (bit_at (bit_or a (b * 2 ^ m % 2 ^ 64)) k) 1 ≡ is_moved (get_or (xs ++ ys) k (pos 0))
    by_place (inl low) =
        let here : bit_at (bit_or a (b * 2 ^ m % 2 ^ 64)) k ≡ bit_at a k = omega (arith, bit_at_or a (b * 2 ^ m % 2 ^ 64) k, shifted_low b m k below low) in
        ap (λ n. eqb n 1) here ∙ first k below ∙ ap is_moved (sym (get_or_append_left xs ys (pos 0) k (omega arith)))
    by_place (inr high) =
        let none : bit_at a k ≡ 0 = bit_zero (bit_at a k) (bit_at-lt a k) (first k below ∙ ap is_moved (get_or_past xs k (pos 0) (omega arith))) in
        let here : bit_at (bit_or a (b * 2 ^ m % 2 ^ 64)) k ≡ bit_at b (k - m) = omega (arith, bit_at_or a (b * 2 ^ m % 2 ^ 64) k, shifted_high b m k below high) in
        ap (λ n. eqb n 1) here ∙ second (k - m) (omega arith) ∙ ap is_moved (sym (get_or-append_right xs ys m k (pos 0) long high))

pub places_mark : (samples : List ℤ) (a b c d : ℕ) → length samples ≡ 64
    → MarksMoved (take 16 samples) a → MarksMoved (take 16 (drop 16 samples)) b → MarksMoved (take 16 (drop 32 samples)) c → MarksMoved (take 16 (drop 48 samples)) d
    → MarksMoved samples (bit_or (bit_or (bit_or a (b * 2 ^ 16 % 2 ^ 64)) (c * 2 ^ 32 % 2 ^ 64)) (d * 2 ^ 48 % 2 ^ 64))
places_mark samples a b c d long first second third fourth =
    let two = joined (take 16 samples) (take 16 (drop 16 samples)) a b 16 (length-take-le 16 samples (omega arith)) first second in
    let three = joined (take 32 samples) (take 16 (drop 32 samples)) _ c 32 (length-take-le 32 samples (omega arith)) (subst (λ l. MarksMoved l (bit_or a (b * 2 ^ 16 % 2 ^ 64))) (sym (take-add 16 16 samples)) two) third in
    let four = joined (take 48 samples) (take 16 (drop 48 samples)) _ d 48 (length-take-le 48 samples (omega arith)) (subst (λ l. MarksMoved l (bit_or (bit_or a (b * 2 ^ 16 % 2 ^ 64)) (c * 2 ^ 32 % 2 ^ 64))) (sym (take-add 32 16 samples)) three) fourth in
    subst (λ l. MarksMoved l (bit_or (bit_or (bit_or a (b * 2 ^ 16 % 2 ^ 64)) (c * 2 ^ 32 % 2 ^ 64)) (d * 2 ^ 48 % 2 ^ 64))) (sym (take-add 48 16 samples) ∙ take_all 64 samples (omega arith)) four

get_or-zeros : (n i : ℕ) → get_or (replicate n (pos 0)) i (pos 0) ≡ pos 0
get_or-zeros zero i = refl
get_or-zeros (suc n) zero = refl
get_or-zeros (suc n) (suc i) = get_or-zeros n i

-- samples with 0s behind them
pub padded : (samples : List ℤ) (n k i : ℕ) → get_or (put_mid 0 k (replicate n (pos 0)) samples) i (pos 0) ≡ get_or samples i (pos 0)
padded samples n k i = elim (cases_lt i (length samples)) [
  | inl low ↦ get_or_append_left samples (drop k (replicate n (pos 0))) (pos 0) i low
  | inr high ↦
      get_or-append_right samples (drop k (replicate n (pos 0))) (length samples) i (pos 0) refl high
      ∙ get_or-drop k (replicate n (pos 0)) (i - length samples) (pos 0)
      ∙ get_or-zeros n (k + (i - length samples))
      ∙ sym (get_or_past samples i (pos 0) high)
]

-- the bits of a word above one that stands before it
one_below : (w before : ℕ) → before < 2 → bit_at (2 * w + before) 0 ≡ before
one_below w before small = bit_at_lowest (2 * w + before) ∙ (let e : (2 * w + before) % 2 ≡ before = omega arith in e)

above_one : (w before i : ℕ) → before < 2 → bit_at (2 * w + before) (suc i) ≡ bit_at w i
above_one w before i small = bit_at-suc (2 * w + before) i ∙ (let e : (2 * w + before) / 2 ≡ w = omega arith in ap (λ n. bit_at n i) e)

moved_on : (w before k : ℕ) → before < 2 → k < 64 → bit_at (bit_or (w * 2 % 2 ^ 64) before) k ≡ bit_at (2 * w + before) k
moved_on w before zero small below =
    let low : bit_at (w * 2 % 2 ^ 64) 0 ≡ 0 = shifted_low w 1 0 below (omega arith) in
    let own : bit_at before 0 ≡ before = bit_at_lowest before ∙ (let e : before % 2 ≡ before = omega arith in e) in
    let is : bit_at (bit_or (w * 2 % 2 ^ 64) before) 0 ≡ before = omega (arith, bit_at_or (w * 2 % 2 ^ 64) before 0) in
    is ∙ sym (one_below w before small)
moved_on w before (suc i) small below =
    let high : bit_at (w * 2 % 2 ^ 64) (suc i) ≡ bit_at w (suc i - 1) = shifted_high w 1 (suc i) below (omega arith) in
    let e : suc i - 1 ≡ i = omega arith in
    let own : bit_at before (suc i) ≡ 0 = bit_at_above before 1 (suc i) small (omega arith) in
    let is : bit_at (bit_or (w * 2 % 2 ^ 64) before) (suc i) ≡ bit_at (w * 2 % 2 ^ 64) (suc i) = omega (arith, bit_at_or (w * 2 % 2 ^ 64) before (suc i)) in
    is ∙ high ∙ ap (bit_at w) e ∙ sym (above_one w before i small)

and_not : (a b : ℕ) → a < 2 → b < 2 → eqb (min a (1 - b)) 1 ≡ (eqb a 1 && not (eqb b 1))
and_not zero zero h k = refl
and_not zero (suc zero) h k = refl
and_not (suc zero) zero h k = refl
and_not (suc zero) (suc zero) h k = refl
and_not zero (suc (suc b)) h k = absurd (omega arith)
and_not (suc zero) (suc (suc b)) h k = absurd (omega arith)
and_not (suc (suc a)) b h k = absurd (omega arith)

pub starts_marked : (w before : ℕ) → before < 2 → MarksStarts w before (bit_and w (bit_not w64 (bit_or (w * 2 % 2 ^ 64) before)))
starts_marked w before small k below =
    let earlier = bit_or (w * 2 % 2 ^ 64) before in
    let fits : earlier < 2 ^ 64 = or_lt 64 (w * 2 % 2 ^ 64) before (omega arith) (omega arith) in
    ap (λ n. eqb n 1) (bit_at_and w (bit_not w64 earlier) k)
    ∙ ap (λ n. eqb (min (bit_at w k) n) 1) (bit_at_not w64 earlier k fits below)
    ∙ and_not (bit_at w k) (bit_at earlier k) (bit_at-lt w k) (bit_at-lt earlier k)
    ∙ ap (λ n. eqb (bit_at w k) 1 && not (eqb n 1)) (moved_on w before k small below)

-- the starts of 64 samples, by those that aren't 0 and the one before the first
pub starts_in_word : (samples part : List ℤ) (j moved before word : ℕ) → before < 2 → ((k : ℕ) → k < 64 → get_or part k (pos 0) ≡ get_or samples (64 * j + k) (pos 0)) → MarksMoved part moved
    → eqb before 1 ≡ is_moved (get_or (pos 0 ∷ samples) (64 * j) (pos 0)) → MarksStarts moved before word → (k : ℕ) → k < 64 → eqb (bit_at word k) 1 ≡ is_start samples (64 * j + k)
starts_in_word samples part j moved before word small same marks last starts k below =
    starts k below
    ∙ ap (λ a. a && not (eqb (bit_at (2 * moved + before) k) 1)) (here k below)
    ∙ ap (λ b. is_moved (get_or samples (64 * j + k) (pos 0)) && not b) (earlier k below)
  where
    here : (k : ℕ) → k < 64 → eqb (bit_at moved k) 1 ≡ is_moved (get_or samples (64 * j + k) (pos 0))
    here k below = marks k below ∙ ap is_moved (same k below)

    earlier : (k : ℕ) → k < 64 → eqb (bit_at (2 * moved + before) k) 1 ≡ is_moved (get_or (pos 0 ∷ samples) (64 * j + k) (pos 0))
    earlier zero below =
        let z : 64 * j ≡ 64 * j + zero = omega arith in
        ap (λ n. eqb n 1) (one_below moved before small) ∙ last ∙ ap (λ i. is_moved (get_or (pos 0 ∷ samples) i (pos 0))) z
    earlier (suc i) below =
        let s : suc (64 * j + i) ≡ 64 * j + suc i = omega arith in
        ap (λ n. eqb n 1) (above_one moved before i small) ∙ here i (omega arith) ∙ ap (λ n. is_moved (get_or (pos 0 ∷ samples) n (pos 0))) s

-- the last of 64 samples is the one before the next
pub last_of_word : (samples part : List ℤ) (j moved : ℕ) → moved < 2 ^ 64 → get_or part 63 (pos 0) ≡ get_or samples (64 * j + 63) (pos 0) → MarksMoved part moved
    → eqb (moved / 2 ^ 63) 1 ≡ is_moved (get_or (pos 0 ∷ samples) (64 * (j + 1)) (pos 0))
last_of_word samples part j moved fits same marks =
    let top : moved / 2 ^ 63 ≡ bit_at moved 63 = omega arith in
    let next : suc (64 * j + 63) ≡ 64 * (j + 1) = omega arith in
    ap (λ n. eqb n 1) top ∙ marks 63 (omega arith) ∙ ap is_moved same ∙ ap (λ n. is_moved (get_or (pos 0 ∷ samples) n (pos 0))) next

-- the first words hold the starts
abbrev pub HoldStarts : List ℤ → List ℕ → ℕ → Type 0
HoldStarts samples words count = (i k : ℕ) → i < count → k < 64 → eqb (bit_at (get_or words i 0) k) 1 ≡ is_start samples (64 * i + k)

pub HoldStarts-more : (samples : List ℤ) (words : List ℕ) (j word : ℕ) → j < length words → ((k : ℕ) → k < 64 → eqb (bit_at word k) 1 ≡ is_start samples (64 * j + k))
    → HoldStarts samples words j → HoldStarts samples (set words j word) (j + 1)
HoldStarts-more samples words j word inside here so_far i k less below = elim (cases_lt i j) [
  | inl low ↦
      let ne : i ≢ j = omega arith in
      ap (λ w. eqb (bit_at w k) 1) (get_or-set_other words j i word 0 ne) ∙ so_far i k low below
  | inr high ↦
      let same : j ≡ i = omega arith in
      subst (λ n. eqb (bit_at (get_or (set words j word) n 0) k) 1 ≡ is_start samples (64 * n + k)) same
      (ap (λ w. eqb (bit_at w k) 1) (get_or-set_same words j word 0 inside) ∙ here k below)
]

-- past the samples there is none
pub no_start : (samples : List ℤ) (k : ℕ) → length samples ≤ k → is_start samples k ≡ false
no_start samples k past = ap (λ a. is_moved a && not (is_moved (get_or (pos 0 ∷ samples) k (pos 0)))) (get_or_past samples k (pos 0) past)

-- where the words that are left are 0, all bits are those of the starts
pub all_starts : (samples : List ℤ) (words : List ℕ) (count : ℕ) → length samples ≤ 64 * count → length samples ≤ 64 * length words → HoldStarts samples words count
    → ((i : ℕ) → count ≤ i → i < length words → get_or words i 0 ≡ 0) → (k : ℕ) → get_or (word_bits words) k false ≡ is_start samples k
all_starts samples words count held room starts zeros k = elim (cases_lt k (64 * length words)) [
  | inl inside ↦
      let e : 64 * (k / 64) + k % 64 ≡ k = omega arith in
      ap (λ n. get_or (word_bits words) n false) (sym e)
      ∙ get_or-word_bits words (k / 64) (k % 64) (omega arith) (omega arith)
      ∙ in_word (k / 64) (k % 64) (omega arith) (omega arith)
      ∙ ap (is_start samples) e
  | inr past ↦ get_or_past (word_bits words) k false (omega (arith, length-word_bits words)) ∙ sym (no_start samples k (omega arith))
]
  where
    in_word : (i m : ℕ) → i < length words → m < 64 → eqb (bit_at (get_or words i 0) m) 1 ≡ is_start samples (64 * i + m)
    in_word i m inside below = elim (cases_lt i count) [
      | inl low ↦ starts i m low below
      | inr high ↦
          ap (λ w. eqb (bit_at w m) 1) (zeros i high inside)
          ∙ ap (λ b. eqb b 1) (bit_at-zero m)
          ∙ sym (no_start samples (64 * i + m) (omega arith))
    ]

-- words of which those from a place on were filled with 0
pub record AreFilled (words filled : List ℕ) (a : ℕ) : Type 0 where
  pub long : length filled ≡ length words
  pub low : (i : ℕ) → i < a → get_or filled i 0 ≡ get_or words i 0
  pub high : (i : ℕ) → a ≤ i → i < length words → get_or filled i 0 ≡ 0

pub are_filled : (words zs : List ℕ) (a k : ℕ) → a + k ≡ length words → length zs ≡ k → ((m : ℕ) → m < k → get_or zs m 0 ≡ 0) → AreFilled words (put_mid a k words zs) a
are_filled words zs a k all long zeros =
    let rest = drop k (drop a words) in
    let front : length (take a words) ≡ a = length-take-le a words (omega arith) in
    record {
      long = omega (arith, length-append (take a words) (zs ++ rest), length-append zs rest, length-drop k (drop a words), length-drop a words);
      low = λ i less. get_or_append_left (take a words) (zs ++ rest) 0 i (omega arith) ∙ get_or-take a words i 0 less;
      high = λ i past inside.
          get_or-append_right (take a words) (zs ++ rest) a i 0 front past
          ∙ get_or_append_left zs rest 0 (i - a) (omega arith)
          ∙ zeros (i - a) (omega arith);
    }

pub HoldStarts-filled : (samples : List ℤ) (words filled : List ℕ) (a : ℕ) → AreFilled words filled a → HoldStarts samples words a → HoldStarts samples filled a
HoldStarts-filled samples words filled a are starts i k less below = ap (λ w. eqb (bit_at w k) 1) (are.low i less) ∙ starts i k less below

-- all samples from a place on
pub slice_rest : (samples : List ℤ) (a k : ℕ) → get_or (take (length samples - a) (drop a samples)) k (pos 0) ≡ get_or samples (a + k) (pos 0)
slice_rest samples a k = elim (cases_lt k (length samples - a)) [
  | inl low ↦ get_or-take (length samples - a) (drop a samples) k (pos 0) low ∙ get_or-drop a samples k (pos 0)
  | inr high ↦
      get_or_past (take (length samples - a) (drop a samples)) k (pos 0) (omega (arith, length-take (length samples - a) (drop a samples)))
      ∙ sym (get_or_past samples (a + k) (pos 0) (omega arith))
]
