-- The laws of the field: the product is additive in both arguments, so that a law holds of all bytes once it holds of the powers of two below 256.
use Rattle.std.proofs.Common.{◌≡◌, ℕ, zero, suc, ◌+◌, ◌-◌, ◌*◌, ◌/◌, ◌%◌, ◌^◌, ◌<◌, Bool, true, false, ◌&&◌, T, eqb, ltb, bit_xor, refl, sym, ap, ap₂, ◌∙◌, subst, inl, inr, arith, eqb→eq, ltb-true, one-mul, zero-mul, add-zero, pow-suc}
use lib.Ieee.Fits.{and_l, and_r}
use Rattle.std.proofs.lemmas.Bool.{cases_lt}
use Rattle.std.proofs.lemmas.Nat.{pow_pos, xor_comm, xor_lt, xor_mod, xor_block}
use Rattle.std.proofs.lemmas.Nat.Bits.{bit_at_xor}
use lib.Bits.{xor_assoc, xor_self, xor_zero_r, xor_shifted}
use Rattle.rs_sector.specs.Field.{polynomial_product, polynomial_remainder, field_product}

-- the test holds of each number below n
abbrev pub all_below : (ℕ → Bool) → ℕ → Bool
all_below p zero = true
all_below p (suc n) = p n && all_below p n

pub every_below : (p : ℕ → Bool) (n : ℕ) → T (all_below p n) → (i : ℕ) → i < n → T (p i)
every_below p zero h i l = absurd (omega arith)
every_below p (suc n) h i l =
    elim (cases_lt i n) [
      | inl lt ↦ every_below p n (and_r (p n) _ h) i lt
      | inr g ↦ let e : n ≡ i = omega arith in subst (λ x. T (p x)) e (and_l _ _ h)
    ]

true_from_T : (b : Bool) → T b → b ≡ true
true_from_T true t = refl
true_from_T false t = absurd t

-- ---- sums

-- a sum of two sums, by columns
pub xor_columns : (a b c d : ℕ) → bit_xor (bit_xor a b) (bit_xor c d) ≡ bit_xor (bit_xor a c) (bit_xor b d)
xor_columns a b c d =
    xor_assoc a b (bit_xor c d)
    ∙ ap (bit_xor a) (sym (xor_assoc b c d) ∙ ap (λ x. bit_xor x d) (xor_comm b c) ∙ xor_assoc c b d)
    ∙ sym (xor_assoc a c (bit_xor b d))

-- one term is the other where the sum is 0
pub same_from_xor : (a b : ℕ) → bit_xor a b ≡ 0 → a ≡ b
same_from_xor a b e = sym (xor_zero_r a) ∙ ap (bit_xor a) (sym (xor_self b)) ∙ sym (xor_assoc a b b) ∙ ap (λ x. bit_xor x b) e

-- what is added twice is gone
pub xor_twice : (a b : ℕ) → bit_xor (bit_xor a b) b ≡ a
xor_twice a b = xor_assoc a b b ∙ ap (bit_xor a) (xor_self b) ∙ xor_zero_r a

bit_of_sum : (p q c : ℕ) → p < 2 → q < 2 → (p + q) % 2 * c ≡ bit_xor (p * c) (q * c)
bit_of_sum zero zero c h k = rw zero-mul
bit_of_sum zero (suc zero) c h k = rw (zero-mul)
bit_of_sum (suc zero) zero c h k = rw (one-mul, zero-mul) (sym (xor_zero_r c))
bit_of_sum (suc zero) (suc zero) c h k = rw (zero-mul, one-mul) (sym (xor_self c))
bit_of_sum (suc (suc p)) q c h k = absurd (omega arith)
bit_of_sum zero (suc (suc q)) c h k = absurd (omega arith)
bit_of_sum (suc zero) (suc (suc q)) c h k = absurd (omega arith)

bit_times_sum : (p c d : ℕ) → p < 2 → p * bit_xor c d ≡ bit_xor (p * c) (p * d)
bit_times_sum zero c d h = simp zero-mul
bit_times_sum (suc zero) c d h = simp one-mul
bit_times_sum (suc (suc p)) c d h = absurd (omega arith)

shifted_sum : (a b n : ℕ) → bit_xor a b * 2 ^ n ≡ bit_xor (a * 2 ^ n) (b * 2 ^ n)
shifted_sum a b n =
    let e = xor_block n a b 0 0 (pow_pos n) (pow_pos n) in
    sym (add-zero (bit_xor a b * 2 ^ n)) ∙ sym e ∙ simp add-zero

-- a fact of 0, of sums and of the powers of two below 2 ^ n is one of all numbers below 2 ^ n
pub by_bits : (P : ℕ → Type 0) → P 0 → ((a b : ℕ) → P a → P b → P (bit_xor a b)) → (n : ℕ) → ((i : ℕ) → i < n → P (2 ^ i)) → (a : ℕ) → a < 2 ^ n → P a
by_bits P none sums zero powers a l = let e : 0 ≡ a = omega arith in subst P e none
by_bits P none sums (suc n) powers a l =
    elim (cases_lt a (2 ^ n)) [
      | inl less ↦ by_bits P none sums n (λ i h. powers i (omega arith)) a less
      | inr most ↦
          let rest : a - 2 ^ n < 2 ^ n = omega (arith, pow-suc 2 n) in
          let e : bit_xor (2 ^ n) (a - 2 ^ n) ≡ a = ap (λ x. bit_xor x (a - 2 ^ n)) (sym (one-mul (2 ^ n))) ∙ xor_shifted 1 n (a - 2 ^ n) rest ∙ omega arith in
          subst P e (sums (2 ^ n) (a - 2 ^ n) (powers n (omega arith)) (by_bits P none sums n (λ i h. powers i (omega arith)) (a - 2 ^ n) rest))
    ]

product_first : (n a c b : ℕ) → polynomial_product n (bit_xor a c) b ≡ bit_xor (polynomial_product n a b) (polynomial_product n c b)
unfolding polynomial_product
product_first zero a c b = refl
product_first (suc n) a c b =
    ap (bit_xor (polynomial_product n (bit_xor a c) b)) (ap (λ x. b / 2 ^ n % 2 * x) (shifted_sum a c n) ∙ bit_times_sum (b / 2 ^ n % 2) (a * 2 ^ n) (c * 2 ^ n) (omega arith))
    ∙ ap (λ x. bit_xor x (bit_xor (b / 2 ^ n % 2 * (a * 2 ^ n)) (b / 2 ^ n % 2 * (c * 2 ^ n)))) (product_first n a c b)
    ∙ xor_columns (polynomial_product n a b) (polynomial_product n c b) (b / 2 ^ n % 2 * (a * 2 ^ n)) (b / 2 ^ n % 2 * (c * 2 ^ n))

product_second : (n a b c : ℕ) → polynomial_product n a (bit_xor b c) ≡ bit_xor (polynomial_product n a b) (polynomial_product n a c)
unfolding polynomial_product
product_second zero a b c = refl
product_second (suc n) a b c =
    ap (λ x. bit_xor (polynomial_product n a (bit_xor b c)) (x * (a * 2 ^ n))) (bit_at_xor b c n)
    ∙ ap (bit_xor (polynomial_product n a (bit_xor b c))) (bit_of_sum (b / 2 ^ n % 2) (c / 2 ^ n % 2) (a * 2 ^ n) (omega arith) (omega arith))
    ∙ ap (λ x. bit_xor x (bit_xor (b / 2 ^ n % 2 * (a * 2 ^ n)) (c / 2 ^ n % 2 * (a * 2 ^ n)))) (product_second n a b c)
    ∙ xor_columns (polynomial_product n a b) (polynomial_product n a c) (b / 2 ^ n % 2 * (a * 2 ^ n)) (c / 2 ^ n % 2 * (a * 2 ^ n))

remainder_sum : (n p q : ℕ) → polynomial_remainder n (bit_xor p q) ≡ bit_xor (polynomial_remainder n p) (polynomial_remainder n q)
unfolding polynomial_remainder
remainder_sum zero p q = refl
remainder_sum (suc n) p q =
    ap (λ x. polynomial_remainder n (bit_xor (bit_xor p q) (x * (285 * 2 ^ n)))) (bit_at_xor p q (8 + n))
    ∙ ap (λ x. polynomial_remainder n (bit_xor (bit_xor p q) x)) (bit_of_sum (p / 2 ^ (8 + n) % 2) (q / 2 ^ (8 + n) % 2) (285 * 2 ^ n) (omega arith) (omega arith))
    ∙ ap (polynomial_remainder n) (xor_columns p q _ _)
    ∙ remainder_sum n _ _

-- ---- the laws of the product

pub product_low_first : (a b : ℕ) → field_product (a % 256) b ≡ field_product a b
unfolding field_product
product_low_first a b = ap (λ x. polynomial_remainder 7 (polynomial_product 8 x (b % 256))) (omega arith)

pub product_low_second : (a b : ℕ) → field_product a (b % 256) ≡ field_product a b
unfolding field_product
product_low_second a b = ap (λ x. polynomial_remainder 7 (polynomial_product 8 (a % 256) x)) (omega arith)

pub product_of_sum_first : (a c b : ℕ) → field_product (bit_xor a c) b ≡ bit_xor (field_product a b) (field_product c b)
unfolding field_product
product_of_sum_first a c b =
    ap (λ x. polynomial_remainder 7 (polynomial_product 8 x (b % 256))) (xor_mod a c 8)
    ∙ ap (polynomial_remainder 7) (product_first 8 (a % 256) (c % 256) (b % 256))
    ∙ remainder_sum 7 _ _

pub product_of_sum : (a b c : ℕ) → field_product a (bit_xor b c) ≡ bit_xor (field_product a b) (field_product a c)
unfolding field_product
product_of_sum a b c =
    ap (λ x. polynomial_remainder 7 (polynomial_product 8 (a % 256) x)) (xor_mod b c 8)
    ∙ ap (polynomial_remainder 7) (product_second 8 (a % 256) (b % 256) (c % 256))
    ∙ remainder_sum 7 _ _

pub product-zero : (a : ℕ) → field_product a 0 ≡ 0
product-zero a = product_of_sum a 0 0 ∙ xor_self (field_product a 0)

pub product_zero_first : (a : ℕ) → field_product 0 a ≡ 0
product_zero_first a = product_of_sum_first 0 0 a ∙ xor_self (field_product 0 a)

-- a fact of the bytes a and b from those of the powers of two
pairs : (P : ℕ → ℕ → Type 0) → ((a : ℕ) → P a 0) → ((b : ℕ) → P 0 b) → ((a c b : ℕ) → P a b → P c b → P (bit_xor a c) b) → ((a b c : ℕ) → P a b → P a c → P a (bit_xor b c))
    → ((i j : ℕ) → i < 8 → j < 8 → P (2 ^ i) (2 ^ j)) → (a b : ℕ) → a < 256 → b < 256 → P a b
pairs P right left first second powers a b la lb =
    by_bits (λ x. P x b) (left b) (λ x y. first x y b) 8 (λ i h. by_bits (P (2 ^ i)) (right (2 ^ i)) (second (2 ^ i)) 8 (λ j k. powers i j h k) b lb) a la

product_commutes_at_powers : T (all_below (λ i. all_below (λ j. eqb (field_product (2 ^ i) (2 ^ j)) (field_product (2 ^ j) (2 ^ i))) 8) 8)
unfolding field_product polynomial_product polynomial_remainder
product_commutes_at_powers = tt

product_byte_at_powers : T (all_below (λ i. all_below (λ j. ltb (field_product (2 ^ i) (2 ^ j)) 256) 8) 8)
unfolding field_product polynomial_product polynomial_remainder
product_byte_at_powers = tt

product_assoc_at_powers : T (all_below (λ i. all_below (λ j. all_below (λ k. eqb (field_product (field_product (2 ^ i) (2 ^ j)) (2 ^ k)) (field_product (2 ^ i) (field_product (2 ^ j) (2 ^ k)))) 8) 8) 8)
unfolding field_product polynomial_product polynomial_remainder
product_assoc_at_powers = tt

product_one_at_powers : T (all_below (λ i. eqb (field_product 1 (2 ^ i)) (2 ^ i)) 8)
unfolding field_product polynomial_product polynomial_remainder
product_one_at_powers = tt

pub product-lt : (a b : ℕ) → field_product a b < 256
product-lt a b =
    let at_powers : (i j : ℕ) → i < 8 → j < 8 → field_product (2 ^ i) (2 ^ j) < 256 =
    λ i j h k. ltb-true _ _ (true_from_T _ (every_below (λ j. ltb (field_product (2 ^ i) (2 ^ j)) 256) 8 (every_below (λ i. all_below (λ j. ltb (field_product (2 ^ i) (2 ^ j)) 256) 8) 8 product_byte_at_powers i h) j k)) in
    let bytes = pairs (λ a b. field_product a b < 256) (λ a. rw product-zero (omega arith)) (λ b. rw product_zero_first (omega arith))
    (λ a c b p q. rw product_of_sum_first (xor_lt 8 (field_product a b) (field_product c b) p q)) (λ a b c p q. rw product_of_sum (xor_lt 8 (field_product a b) (field_product a c) p q)) at_powers (a % 256) (b % 256) (omega arith) (omega arith) in
    rw (← product_low_first a b, ← product_low_second (a % 256) b) bytes

pub product_comm : (a b : ℕ) → field_product a b ≡ field_product b a
product_comm a b =
    let at_powers : (i j : ℕ) → i < 8 → j < 8 → field_product (2 ^ i) (2 ^ j) ≡ field_product (2 ^ j) (2 ^ i) =
    λ i j h k. eqb→eq _ _ (every_below (λ j. eqb (field_product (2 ^ i) (2 ^ j)) (field_product (2 ^ j) (2 ^ i))) 8 (every_below (λ i. all_below (λ j. eqb (field_product (2 ^ i) (2 ^ j)) (field_product (2 ^ j) (2 ^ i))) 8) 8 product_commutes_at_powers i h) j k) in
    let bytes = pairs (λ a b. field_product a b ≡ field_product b a) (λ a. product-zero a ∙ sym (product_zero_first a)) (λ b. product_zero_first b ∙ sym (product-zero b))
    (λ a c b p q. product_of_sum_first a c b ∙ ap₂ bit_xor p q ∙ sym (product_of_sum b a c)) (λ a b c p q. product_of_sum a b c ∙ ap₂ bit_xor p q ∙ sym (product_of_sum_first b c a)) at_powers (a % 256) (b % 256) (omega arith) (omega arith) in
    sym (product_low_second a b) ∙ sym (product_low_first a (b % 256)) ∙ bytes ∙ product_low_second (b % 256) a ∙ product_low_first b a

pub product_one_first : (a : ℕ) → a < 256 → field_product 1 a ≡ a
product_one_first a l =
    by_bits (λ x. field_product 1 x ≡ x) (product-zero 1) (λ x y p q. product_of_sum 1 x y ∙ ap₂ bit_xor p q) 8 (λ i h. eqb→eq _ _ (every_below (λ i. eqb (field_product 1 (2 ^ i)) (2 ^ i)) 8 product_one_at_powers i h)) a l

pub product-one : (a : ℕ) → a < 256 → field_product a 1 ≡ a
product-one a l = product_comm a 1 ∙ product_one_first a l

assoc_bytes : (a b c : ℕ) → a < 256 → b < 256 → c < 256 → field_product (field_product a b) c ≡ field_product a (field_product b c)
assoc_bytes a b c la lb lc =
    let at_powers : (i j k : ℕ) → i < 8 → j < 8 → k < 8 → field_product (field_product (2 ^ i) (2 ^ j)) (2 ^ k) ≡ field_product (2 ^ i) (field_product (2 ^ j) (2 ^ k)) =
    λ i j k h l m. eqb→eq _ _ (every_below (λ k. eqb (field_product (field_product (2 ^ i) (2 ^ j)) (2 ^ k)) (field_product (2 ^ i) (field_product (2 ^ j) (2 ^ k)))) 8 (every_below (λ j. all_below (λ k. eqb (field_product (field_product (2 ^ i) (2 ^ j)) (2 ^ k)) (field_product (2 ^ i) (field_product (2 ^ j) (2 ^ k)))) 8) 8 (every_below (λ i. all_below (λ j. all_below (λ k. eqb (field_product (field_product (2 ^ i) (2 ^ j)) (2 ^ k)) (field_product (2 ^ i) (field_product (2 ^ j) (2 ^ k)))) 8) 8) 8 product_assoc_at_powers i h) j l) k m) in
    let third : (i j : ℕ) → i < 8 → j < 8 → field_product (field_product (2 ^ i) (2 ^ j)) c ≡ field_product (2 ^ i) (field_product (2 ^ j) c) =
    λ i j h k. by_bits (λ x. field_product (field_product (2 ^ i) (2 ^ j)) x ≡ field_product (2 ^ i) (field_product (2 ^ j) x))
    (product-zero _ ∙ sym (ap (field_product (2 ^ i)) (product-zero (2 ^ j)) ∙ product-zero (2 ^ i)))
    (λ x y p q. product_of_sum (field_product (2 ^ i) (2 ^ j)) x y ∙ ap₂ bit_xor p q ∙ sym (ap (field_product (2 ^ i)) (product_of_sum (2 ^ j) x y) ∙ product_of_sum (2 ^ i) (field_product (2 ^ j) x) (field_product (2 ^ j) y)))
    8 (λ l m. at_powers i j l h k m) c lc in
    pairs (λ a b. field_product (field_product a b) c ≡ field_product a (field_product b c))
    (λ a. ap (λ x. field_product x c) (product-zero a) ∙ product_zero_first c ∙ sym (ap (field_product a) (product_zero_first c) ∙ product-zero a))
    (λ b. ap (λ x. field_product x c) (product_zero_first b) ∙ product_zero_first c ∙ sym (product_zero_first (field_product b c)))
    (λ x y b p q. ap (λ z. field_product z c) (product_of_sum_first x y b) ∙ product_of_sum_first (field_product x b) (field_product y b) c ∙ ap₂ bit_xor p q ∙ sym (product_of_sum_first x y (field_product b c)))
    (λ a x y p q. ap (λ z. field_product z c) (product_of_sum a x y) ∙ product_of_sum_first (field_product a x) (field_product a y) c ∙ ap₂ bit_xor p q
    ∙ sym (ap (field_product a) (product_of_sum_first x y c) ∙ product_of_sum a (field_product x c) (field_product y c)))
    third a b la lb

pub product_assoc : (a b c : ℕ) → field_product (field_product a b) c ≡ field_product a (field_product b c)
product_assoc a b c =
    let bytes = assoc_bytes (a % 256) (b % 256) (c % 256) (omega arith) (omega arith) (omega arith) in
    ap (λ x. field_product x c) (sym (product_low_first a b) ∙ sym (product_low_second (a % 256) b))
    ∙ sym (product_low_second (field_product (a % 256) (b % 256)) c) ∙ bytes
    ∙ product_low_first a (field_product (b % 256) (c % 256))
    ∙ ap (field_product a) (product_low_first b (c % 256) ∙ product_low_second b c)
