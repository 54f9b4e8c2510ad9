-- Bits of numbers and of words, the lowest first.
use Rattle.std.proofs.Common.{◌≡◌, ℕ, zero, suc, ◌+◌, ◌-◌, ◌*◌, ◌^◌, ◌<◌, ◌≤◌, ◌/◌, ◌%◌, Bool, true, false, eqb, List, [], ◌∷◌, ◌++◌, length, get_or, take, drop, set, refl, sym, ap, ◌∙◌, pow-suc, length-append, arith}
use Rattle.std.specs.Int.{bit_at}
use Rattle.std.specs.Simd.Lanes.{mask_l}
use Rattle.std.proofs.lemmas.List.{take-append-drop, take_more_set, length-take-le, take-take, append-nil}
use Rattle.std.proofs.lemmas.List.Concat.{flat_map-append}
use Rattle.std.proofs.lemmas.Nat.{shr_high, mod_low, shr-shr, div-add-mod'}
use Rattle.std.proofs.lemmas.Nat.Bits.{bit_at-suc, bit_at_lowest, bit_at_cat_low}
use Rattle.std.proofs.lemmas.Simd.{mask_l-lt}
use Rattle.bit_words.specs.Words.{first_bits, word_bits, HaveBitsInOrder}

pub length-first_bits : (k n : ℕ) → length (first_bits k n) ≡ k
unfolding first_bits
length-first_bits zero n = refl
length-first_bits (suc k) n = ap suc (length-first_bits k (n / 2))

pub get_or-first_bits : (k n j : ℕ) → j < k → get_or (first_bits k n) j false ≡ eqb (bit_at n j) 1
unfolding first_bits
get_or-first_bits zero n j less = absurd (omega arith)
get_or-first_bits (suc k) n zero less = ap (λ v. eqb v 1) (sym (bit_at_lowest n))
get_or-first_bits (suc k) n (suc j) less = get_or-first_bits k (n / 2) j (omega arith) ∙ ap (λ v. eqb v 1) (sym (bit_at-suc n j))

-- two numbers side by side, the second above the first
pub first_bits_cat : (j k low high : ℕ) → low < 2 ^ j → first_bits (j + k) (high * 2 ^ j + low) ≡ first_bits j low ++ first_bits k high
unfolding first_bits
first_bits_cat zero k low high fits =
    let e : high * 2 ^ 0 + low ≡ high = omega arith in
    let z : 0 + k ≡ k = omega arith in
    ap (λ n. first_bits n (high * 2 ^ 0 + low)) z ∙ ap (first_bits k) e
first_bits_cat (suc j) k low high fits =
    let twice : 2 ^ suc j ≡ 2 ^ j * 2 = pow-suc 2 j in
    let product : high * 2 ^ suc j ≡ high * 2 ^ j * 2 = ap (λ m. high * m) twice ∙ (let e : high * (2 ^ j * 2) ≡ high * 2 ^ j * 2 = omega arith in e) in
    let s : suc j + k ≡ suc (j + k) = omega arith in
    let lowest : (high * 2 ^ suc j + low) % 2 ≡ low % 2 = omega arith in
    let others : (high * 2 ^ suc j + low) / 2 ≡ high * 2 ^ j + low / 2 = omega arith in
    ap (λ n. first_bits n (high * 2 ^ suc j + low)) s
    ∙ ap (λ v. eqb v 1 ∷ first_bits (j + k) ((high * 2 ^ suc j + low) / 2)) lowest
    ∙ ap (λ v. eqb (low % 2) 1 ∷ first_bits (j + k) v) others
    ∙ ap (λ l. eqb (low % 2) 1 ∷ l) (first_bits_cat j k (low / 2) high (omega arith))

-- what is left of a division keeps its bits
pub bit_at-mod : (n m i : ℕ) → i < m → bit_at (n % 2 ^ m) i ≡ bit_at n i
bit_at-mod n m i h = sym (bit_at_cat_low (n / 2 ^ m) m (n % 2 ^ m) i h) ∙ ap (λ v. bit_at v i) (div-add-mod' n (2 ^ m))

-- a part cut out of a number
pub bit_at-cut : (n j k i : ℕ) → i < k → bit_at (n / 2 ^ j % 2 ^ k) i ≡ bit_at n (j + i)
bit_at-cut n j k i h = bit_at-mod (n / 2 ^ j) k i h ∙ ap (λ m. m % 2) (shr-shr n j i)

-- the number that bits spell has them
pub first_bits-mask_l : (k : ℕ) (xs : List Bool) → k ≤ length xs → first_bits k (mask_l xs) ≡ take k xs
unfolding first_bits
first_bits-mask_l zero xs fits = refl
first_bits-mask_l (suc k) [] fits = absurd (omega arith)
first_bits-mask_l (suc k) (true ∷ xs) fits =
    let lowest : (1 + 2 * mask_l xs) % 2 ≡ 1 = omega arith in
    let others : (1 + 2 * mask_l xs) / 2 ≡ mask_l xs = omega arith in
    ap (λ v. eqb v 1 ∷ first_bits k ((1 + 2 * mask_l xs) / 2)) lowest ∙ ap (λ v. true ∷ first_bits k v) others ∙ ap (λ l. true ∷ l) (first_bits-mask_l k xs (omega arith))
first_bits-mask_l (suc k) (false ∷ xs) fits =
    let lowest : (0 + 2 * mask_l xs) % 2 ≡ 0 = omega arith in
    let others : (0 + 2 * mask_l xs) / 2 ≡ mask_l xs = omega arith in
    ap (λ v. eqb v 1 ∷ first_bits k ((0 + 2 * mask_l xs) / 2)) lowest ∙ ap (λ v. false ∷ first_bits k v) others ∙ ap (λ l. false ∷ l) (first_bits-mask_l k xs (omega arith))

pub mask_l-append : (xs ys : List Bool) → mask_l (xs ++ ys) ≡ mask_l ys * 2 ^ length xs + mask_l xs
mask_l-append [] ys = omega arith
mask_l-append (true ∷ xs) ys =
    let twice : 2 ^ suc (length xs) ≡ 2 ^ length xs * 2 = pow-suc 2 (length xs) in
    omega (arith, mask_l-append xs ys, ap (λ m. mask_l ys * m) twice)
mask_l-append (false ∷ xs) ys =
    let twice : 2 ^ suc (length xs) ≡ 2 ^ length xs * 2 = pow-suc 2 (length xs) in
    omega (arith, mask_l-append xs ys, ap (λ m. mask_l ys * m) twice)

-- a number cut at a place: the bits below it, and those from it on
pub record Cuts (k : ℕ) (xs : List Bool) : Type 0 where
  pub below : mask_l xs % 2 ^ k ≡ mask_l (take k xs)
  pub above : mask_l xs / 2 ^ k ≡ mask_l (drop k xs)

pub cuts : (k : ℕ) (xs : List Bool) → k ≤ length xs → Cuts k xs
cuts k xs fits =
    let long : length (take k xs) ≡ k = length-take-le k xs fits in
    let small : mask_l (take k xs) < 2 ^ k = omega (arith, mask_l-lt (take k xs), ap (λ n. 2 ^ n) long) in
    let e : mask_l xs ≡ mask_l (drop k xs) * 2 ^ k + mask_l (take k xs) =
    ap mask_l (sym (take-append-drop k xs)) ∙ mask_l-append (take k xs) (drop k xs) ∙ ap (λ n. mask_l (drop k xs) * 2 ^ n + mask_l (take k xs)) long in
    record {
      below = ap (λ n. n % 2 ^ k) e ∙ mod_low (mask_l (drop k xs)) k (mask_l (take k xs)) small;
      above = ap (λ n. n / 2 ^ k) e ∙ shr_high (mask_l (drop k xs)) k (mask_l (take k xs)) small;
    }

-- the lowest bits of a number are those of what is left of a division
pub first_bits-cut : (k : ℕ) (xs : List Bool) → k ≤ length xs → first_bits k (mask_l xs % 2 ^ k) ≡ take k xs
first_bits-cut k xs fits =
    ap (first_bits k) (cuts k xs fits).below
    ∙ first_bits-mask_l k (take k xs) (omega (arith, length-take-le k xs fits))
    ∙ take-take k k xs (omega arith)

pub length-word_bits : (words : List ℕ) → length (word_bits words) ≡ 64 * length words
length-word_bits [] = refl
length-word_bits (w ∷ words) = omega (arith, length-append (first_bits 64 w) (word_bits words), length-first_bits 64 w, length-word_bits words)

-- one word more
pub word_bits_more : (words : List ℕ) (j word : ℕ) → j < length words → word_bits (take (j + 1) (set words j word)) ≡ word_bits (take j words) ++ first_bits 64 word
word_bits_more words j word inside =
    ap word_bits (take_more_set words j word inside)
    ∙ flat_map-append (first_bits 64) (take j words) (word ∷ [])
    ∙ ap (λ l. word_bits (take j words) ++ l) (append-nil (first_bits 64 word))

get_or-append_low : (xs ys : List Bool) (k : ℕ) → k < length xs → get_or (xs ++ ys) k false ≡ get_or xs k false
get_or-append_low [] ys k h = absurd (omega arith)
get_or-append_low (x ∷ xs) ys zero h = refl
get_or-append_low (x ∷ xs) ys (suc k) h = get_or-append_low xs ys k (omega arith)

get_or-append_high : (xs ys : List Bool) (n k : ℕ) → length xs ≡ n → get_or (xs ++ ys) (n + k) false ≡ get_or ys k false
get_or-append_high [] ys n k e = let z : n + k ≡ k = omega arith in ap (λ i. get_or ys i false) z
get_or-append_high (x ∷ xs) ys n k e =
    let z : n + k ≡ suc (length xs + k) = omega arith in
    ap (λ i. get_or (x ∷ (xs ++ ys)) i false) z ∙ get_or-append_high xs ys (length xs) k refl

-- a bit by its word and its place there
pub get_or-word_bits : (words : List ℕ) (j i : ℕ) → j < length words → i < 64 → get_or (word_bits words) (64 * j + i) false ≡ eqb (bit_at (get_or words j 0) i) 1
get_or-word_bits [] j i inside below = absurd (omega arith)
get_or-word_bits (w ∷ words) zero i inside below =
    let z : 64 * zero + i ≡ i = omega arith in
    ap (λ k. get_or (word_bits (w ∷ words)) k false) z
    ∙ get_or-append_low (first_bits 64 w) (word_bits words) i (omega (arith, length-first_bits 64 w))
    ∙ get_or-first_bits 64 w i below
get_or-word_bits (w ∷ words) (suc j) i inside below =
    let z : 64 * suc j + i ≡ 64 + (64 * j + i) = omega arith in
    ap (λ k. get_or (word_bits (w ∷ words)) k false) z
    ∙ get_or-append_high (first_bits 64 w) (word_bits words) 64 (64 * j + i) (length-first_bits 64 w)
    ∙ get_or-word_bits words j i (omega arith) below

pub in_order : (words : List ℕ) → HaveBitsInOrder words
in_order words k inside =
    let e : 64 * (k / 64) + k % 64 ≡ k = omega arith in
    ap (λ n. get_or (word_bits words) n false) (sym e)
    ∙ get_or-word_bits words (k / 64) (k % 64) (omega arith) (omega arith)
