-- The lowest bits of a number, and the number that bits spell.
use Rattle.std.proofs.Common.{◌≡◌, ℕ, zero, suc, ◌+◌, ◌-◌, ◌*◌, ◌^◌, ◌<◌, ◌≤◌, ◌/◌, ◌%◌, Bool, true, false, cond, eqb, fold, List, [], ◌∷◌, ◌++◌, length, get_or, take, refl, sym, ap, ◌∙◌, pow-suc, arith}
use Rattle.std.specs.Int.{bit_at}
use Rattle.std.proofs.lemmas.List.{ext_get_or, get_or-take, length-take-le}
use Rattle.std.proofs.lemmas.Grind.{fold-append}
use Rattle.std.proofs.lemmas.Nat.Bits.{bit_at-suc, bit_at_lowest, bit_at_cat_low}
use Rattle.std.proofs.lemmas.Nat.{div-add-mod', pow-add}
use Rattle.std.proofs.Math.Nat.{div-div-eq-div-mul}
use Rattle.rll_code.specs.Bits.{low_bits, number}

pub length-low_bits : (k n : ℕ) → length (low_bits k n) ≡ k
unfolding low_bits
length-low_bits zero n = refl
length-low_bits (suc k) n = omega (arith, length-low_bits k n)

get_or-low_bits : (k n j : ℕ) → j < k → get_or (low_bits k n) j false ≡ eqb (bit_at n (k - 1 - j)) 1
unfolding low_bits
get_or-low_bits zero n j less = absurd (omega arith)
get_or-low_bits (suc k) n zero less =
    let e : k ≡ suc k - 1 - zero = omega arith in
    ap (λ i. eqb (bit_at n i) 1) e
get_or-low_bits (suc k) n (suc j) less =
    let e : k - 1 - j ≡ suc k - 1 - suc j = omega arith in
    get_or-low_bits k n j (omega arith) ∙ ap (λ i. eqb (bit_at n i) 1) e

-- places that hold the bits, one by one, are their beginning
pub low_bits_from_reads : (k n : ℕ) (places : List Bool) → length places ≤ k → ((j : ℕ) → j < length places → get_or places j false ≡ eqb (bit_at n (k - 1 - j)) 1) → places ≡ take (length places) (low_bits k n)
low_bits_from_reads k n places fits reads =
    let long : length places ≤ length (low_bits k n) = omega (arith, length-low_bits k n) in
    ext_get_or false places (take (length places) (low_bits k n)) (sym (length-take-le (length places) (low_bits k n) long))
    (λ j less. reads j less ∙ sym (get_or-low_bits k n j (omega arith)) ∙ sym (get_or-take (length places) (low_bits k n) j false less))

-- a bit as a number
abbrev pub digit : Bool → ℕ
digit b = cond b 1 0

halved : (n : ℕ) (b : Bool) → (2 * n + digit b) / 2 ≡ n
halved n true = omega arith
halved n false = omega arith

-- one bit more behind the others
pub low_bits_push : (k n : ℕ) (b : Bool) → low_bits (suc k) (2 * n + digit b) ≡ low_bits k n ++ b ∷ []
unfolding low_bits
low_bits_push zero n true = ap (λ v. eqb v 1 ∷ []) (bit_at_lowest (2 * n + 1) ∙ (let e : (2 * n + 1) % 2 ≡ 1 = omega arith in e))
low_bits_push zero n false = ap (λ v. eqb v 1 ∷ []) (bit_at_lowest (2 * n + 0) ∙ (let e : (2 * n + 0) % 2 ≡ 0 = omega arith in e))
low_bits_push (suc k) n b =
    let half : (2 * n + digit b) / 2 ≡ n = halved n b in
    ap (λ v. eqb v 1 ∷ low_bits (suc k) (2 * n + digit b)) (bit_at-suc (2 * n + digit b) k ∙ ap (λ m. bit_at m k) half)
    ∙ ap (λ l. eqb (bit_at n k) 1 ∷ l) (low_bits_push k n b)

-- numbers that bits behind other bits spell
spelled_from : (n : ℕ) (xs : List Bool) → fold (λ m b. 2 * m + digit b) n xs ≡ n * 2 ^ length xs + number xs
spelled_from n [] = omega arith
spelled_from n (true ∷ xs) =
    let twice : 2 ^ suc (length xs) ≡ 2 ^ length xs * 2 = pow-suc 2 (length xs) in
    omega (arith, spelled_from (2 * n + 1) xs, spelled_from (0 + 1) xs, twice, ap (λ m. n * m) twice)
spelled_from n (false ∷ xs) =
    let twice : 2 ^ suc (length xs) ≡ 2 ^ length xs * 2 = pow-suc 2 (length xs) in
    omega (arith, spelled_from (2 * n + 0) xs, spelled_from (0 + 0) xs, twice, ap (λ m. n * m) twice)

-- the first bit is worth the places of the others
pub number-cons : (x : Bool) (xs : List Bool) → number (x ∷ xs) ≡ digit x * 2 ^ length xs + number xs
number-cons true xs = spelled_from (0 + 1) xs
number-cons false xs = spelled_from (0 + 0) xs

pub number-append : (xs ys : List Bool) → number (xs ++ ys) ≡ number xs * 2 ^ length ys + number ys
number-append xs ys = fold-append (λ n b. 2 * n + digit b) 0 xs ys ∙ spelled_from (number xs) ys

pub number-bound : (xs : List Bool) → number xs < 2 ^ length xs
number-bound [] = omega arith
number-bound (true ∷ xs) =
    omega (arith, number-bound xs, spelled_from (0 + 1) xs, pow-suc 2 (length xs))
number-bound (false ∷ xs) =
    omega (arith, number-bound xs, spelled_from (0 + 0) xs, pow-suc 2 (length xs))

-- the higher of the lowest bits, and the lower ones
pub low_bits-append : (a b n : ℕ) → low_bits (a + b) n ≡ low_bits a (n / 2 ^ b) ++ low_bits b n
unfolding low_bits
low_bits-append zero b n = let e : 0 + b ≡ b = omega arith in ap (λ k. low_bits k n) e
low_bits-append (suc a) b n =
    let e : suc a + b ≡ suc (a + b) = omega arith in
    let power : 2 ^ (a + b) ≡ 2 ^ b * 2 ^ a = (let flip : a + b ≡ b + a = omega arith in ap (λ k. 2 ^ k) flip ∙ pow-add 2 b a) in
    ap (λ k. low_bits k n) e
    ∙ ap (λ d. eqb (n / d % 2) 1 ∷ low_bits (a + b) n) power
    ∙ ap (λ q. eqb (q % 2) 1 ∷ low_bits (a + b) n) (sym (div-div-eq-div-mul n (2 ^ b) (2 ^ a)))
    ∙ ap (λ l. eqb (bit_at (n / 2 ^ b) a) 1 ∷ l) (low_bits-append a b n)

-- what is left of a division has the lowest bits
pub low_bits-mod : (k m n : ℕ) → k ≤ m → low_bits k (n % 2 ^ m) ≡ low_bits k n
unfolding low_bits
low_bits-mod zero m n within = refl
low_bits-mod (suc k) m n within =
    let bit : bit_at (n % 2 ^ m) k ≡ bit_at n k = sym (bit_at_cat_low (n / 2 ^ m) m (n % 2 ^ m) k (omega arith)) ∙ ap (λ v. bit_at v k) (div-add-mod' n (2 ^ m)) in
    ap (λ v. eqb v 1 ∷ low_bits k (n % 2 ^ m)) bit ∙ ap (λ l. eqb (bit_at n k) 1 ∷ l) (low_bits-mod k m n (omega arith))

-- a beginning that ends inside the second of two lists
pub take_past : {X : Type 0} (p q : List X) (a m : ℕ) → length p ≡ a → take (a + m) (p ++ q) ≡ p ++ take m q
take_past [] q a m e = let z : a + m ≡ m = omega (arith, e) in ap (λ n. take n q) z
take_past (x ∷ p) q a m e =
    let z : a + m ≡ suc (length p + m) = omega (arith, e) in
    ap (λ n. take n (x ∷ (p ++ q))) z ∙ ap (λ l. x ∷ l) (take_past p q (length p) m refl)
