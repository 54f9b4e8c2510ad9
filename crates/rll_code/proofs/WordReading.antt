-- Channel bits read out of words.
use Rattle.std.proofs.Common.{◌≡◌, ◌⊎◌, ℕ, ◌+◌, ◌-◌, ◌*◌, ◌^◌, ◌/◌, ◌%◌, ◌<◌, ◌≤◌, Bool, true, false, eqb, List, [], ◌∷◌, ◌++◌, length, get_or, take, drop, sym, ap, ◌∙◌, inl, inr, length-drop, arith}
use Rattle.std.specs.Int.{bit_at}
use Rattle.std.proofs.lemmas.Bool.{cases_lt}
use Rattle.std.proofs.lemmas.List.{ext_get_or, get_or-take, get_or-drop, length-take-le, take-append-drop, drop-drop}
use Rattle.std.proofs.lemmas.Nat.{shr-shr}
use Rattle.std.proofs.lemmas.Nat.Bits.{bit_at_cat_low, bit_at_cat_high}
use Rattle.bit_words.specs.Words.{first_bits, word_bits}
use Rattle.bit_words.proofs.BitLists.{bit_at-cut, bit_at-mod, first_bits_cat, get_or-first_bits, get_or-word_bits, length-first_bits, length-word_bits}

-- sixteen bits as two times eight
pub two_halves : (v : ℕ) → first_bits 16 v ≡ first_bits 8 (v % 256) ++ first_bits 8 (v / 256)
two_halves v =
    let e : v / 256 * 256 + v % 256 ≡ v = omega arith in
    ap (first_bits 16) (sym e) ∙ first_bits_cat 8 8 (v % 256) (v / 256) (omega arith)

-- a bit of two words side by side, the lowest six left out
bit_of_two : (words : List ℕ) (m k : ℕ) → m + 1 < length words → get_or words m 0 < 2 ^ 64 → k < 64
    → eqb (bit_at (get_or words (m + 1) 0 % 64 * 2 ^ 58 + get_or words m 0 / 64) k) 1 ≡ get_or (word_bits words) (64 * m + 6 + k) false
bit_of_two words m k inside fits below = by_place (cases_lt k 58)
  where
    by_place : (k < 58) ⊎ (58 ≤ k) → eqb (bit_at (get_or words (m + 1) 0 % 64 * 2 ^ 58 + get_or words m 0 / 64) k) 1 ≡ get_or (word_bits words) (64 * m + 6 + k) false
    by_place (inl low) =
        let e : 64 * m + (6 + k) ≡ 64 * m + 6 + k = omega arith in
        ap (λ b. eqb b 1) (bit_at_cat_low (get_or words (m + 1) 0 % 64) 58 (get_or words m 0 / 64) k low ∙ ap (λ n. n % 2) (shr-shr (get_or words m 0) 6 k))
        ∙ sym (get_or-word_bits words m (6 + k) (omega arith) (omega arith))
        ∙ ap (λ n. get_or (word_bits words) n false) e
    by_place (inr high) =
        let e : 64 * (m + 1) + (k - 58) ≡ 64 * m + 6 + k = omega arith in
        let small : get_or words m 0 / 64 < 2 ^ 58 = omega arith in
        ap (λ b. eqb b 1) (bit_at_cat_high (get_or words (m + 1) 0 % 64) 58 (get_or words m 0 / 64) k small high ∙ bit_at-mod (get_or words (m + 1) 0) 6 (k - 58) (omega arith))
        ∙ sym (get_or-word_bits words (m + 1) (k - 58) inside (omega arith))
        ∙ ap (λ n. get_or (word_bits words) n false) e

-- the bits of four bytes
pub sixty_four_bits : (words : List ℕ) (j : ℕ) → j + 1 < length words → get_or words j 0 < 2 ^ 64
    → first_bits 64 (get_or words (j + 1) 0 % 64 * 2 ^ 58 + get_or words j 0 / 64) ≡ take 64 (drop (64 * j + 6) (word_bits words))
sixty_four_bits words j inside fits =
    let v = get_or words (j + 1) 0 % 64 * 2 ^ 58 + get_or words j 0 / 64 in
    let wb = word_bits words in
    let long : length (take 64 (drop (64 * j + 6) wb)) ≡ 64 = length-take-le 64 (drop (64 * j + 6) wb) (omega (arith, length-drop (64 * j + 6) wb, length-word_bits words)) in
    ext_get_or false (first_bits 64 v) (take 64 (drop (64 * j + 6) wb)) (length-first_bits 64 v ∙ sym long)
    (λ r h. let less : r < 64 = omega (arith, length-first_bits 64 v) in
    get_or-first_bits 64 v r less
    ∙ bit_of_two words j r inside fits less
    ∙ sym (get_or-drop (64 * j + 6) wb r false)
    ∙ sym (get_or-take 64 (drop (64 * j + 6) wb) r false less))

-- the bits of one of four bytes, and what follows them in a beginning
pub sixteen_of : (bits : List Bool) (v at n i part place : ℕ) → first_bits 64 v ≡ take 64 (drop at bits) → part ≡ v / 2 ^ (16 * i) % 65536 → place ≡ at + 16 * i → i < 4 → at + 64 ≤ n → n ≤ length bits
    → drop place (take n bits) ≡ first_bits 16 part ++ drop (place + 16) (take n bits)
sixteen_of bits v at n i part place is is_part is_place four room inside =
    let all = take n bits in
    let long : length all ≡ n = length-take-le n bits inside in
    let sixteen_long : length (take 16 (drop place all)) ≡ 16 = length-take-le 16 (drop place all) (omega (arith, length-drop place all)) in
    let same_bits : first_bits 16 part ≡ take 16 (drop place all) =
    ext_get_or false (first_bits 16 part) (take 16 (drop place all)) (length-first_bits 16 part ∙ sym sixteen_long)
    (λ r h. let less : r < 16 = omega (arith, length-first_bits 16 part) in
    let e : at + (16 * i + r) ≡ place + r = omega arith in
    get_or-first_bits 16 part r less
    ∙ ap (λ p. eqb (bit_at p r) 1) is_part
    ∙ ap (λ b. eqb b 1) (bit_at-cut v (16 * i) 16 r less)
    ∙ sym (get_or-first_bits 64 v (16 * i + r) (omega arith))
    ∙ ap (λ l. get_or l (16 * i + r) false) is
    ∙ get_or-take 64 (drop at bits) (16 * i + r) false (omega arith)
    ∙ get_or-drop at bits (16 * i + r) false
    ∙ ap (λ p. get_or bits p false) e
    ∙ sym (get_or-take n bits (place + r) false (omega arith))
    ∙ sym (get_or-drop place all r false)
    ∙ sym (get_or-take 16 (drop place all) r false less)) in
    sym (take-append-drop 16 (drop place all))
    ∙ ap (λ l. l ++ drop 16 (drop place all)) (sym same_bits)
    ∙ ap (λ l. first_bits 16 part ++ l) (drop-drop 16 place all)

six_of : (xs ys : List Bool) → length xs ≡ 6 → ((k : ℕ) → k < 6 → get_or xs k false ≡ get_or ys k false) → xs ≡ get_or ys 0 false ∷ get_or ys 1 false ∷ get_or ys 2 false ∷ get_or ys 3 false ∷ get_or ys 4 false ∷ get_or ys 5 false ∷ []
six_of (a ∷ b ∷ c ∷ d ∷ e ∷ f ∷ []) ys long each =
    let ia : a ≡ get_or ys 0 false = each 0 (omega arith) in
    let ib : b ≡ get_or ys 1 false = each 1 (omega arith) in
    let ic : c ≡ get_or ys 2 false = each 2 (omega arith) in
    let id : d ≡ get_or ys 3 false = each 3 (omega arith) in
    let ie : e ≡ get_or ys 4 false = each 4 (omega arith) in
    let if : f ≡ get_or ys 5 false = each 5 (omega arith) in
    cc
six_of [] ys long each = absurd (omega arith)
six_of (a ∷ []) ys long each = absurd (omega arith)
six_of (a ∷ b ∷ []) ys long each = absurd (omega arith)
six_of (a ∷ b ∷ c ∷ []) ys long each = absurd (omega arith)
six_of (a ∷ b ∷ c ∷ d ∷ []) ys long each = absurd (omega arith)
six_of (a ∷ b ∷ c ∷ d ∷ e ∷ []) ys long each = absurd (omega arith)
six_of (a ∷ b ∷ c ∷ d ∷ e ∷ f ∷ g ∷ more) ys long each = absurd (omega arith)

-- two 1s and the first six bits
pub first_six : (words : List ℕ) (n : ℕ) → 0 < length words → 6 ≤ n
    → first_bits 8 (get_or words 0 0 % 64 * 4 + 3) ≡ true ∷ true ∷ get_or (take n (word_bits words)) 0 false ∷ get_or (take n (word_bits words)) 1 false ∷ get_or (take n (word_bits words)) 2 false ∷ get_or (take n (word_bits words)) 3 false ∷ get_or (take n (word_bits words)) 4 false ∷ get_or (take n (word_bits words)) 5 false ∷ []
unfolding first_bits
first_six words n some six =
    let y = get_or words 0 0 % 64 in
    first_bits_cat 2 6 3 y (omega arith)
    ∙ ap (λ l. true ∷ true ∷ l) (six_of (first_bits 6 y) (take n (word_bits words)) (length-first_bits 6 y)
    (λ k below. get_or-first_bits 6 y k below
    ∙ ap (λ b. eqb b 1) (bit_at-mod (get_or words 0 0) 6 k below)
    ∙ sym (get_or-word_bits words 0 k some (omega arith))
    ∙ (let e : 64 * 0 + k ≡ k = omega arith in ap (λ i. get_or (word_bits words) i false) e)
    ∙ sym (get_or-take n (word_bits words) k false (omega arith))))
