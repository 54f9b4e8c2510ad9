-- Sums over the numbers below n, and counts of them.
use Rattle.std.proofs.Common.{◌≡◌, ℕ, zero, suc, ◌+◌, ◌<◌, ◌≤◌, Bool, true, false, cond, ◌||◌, eqb, bit_xor, refl, sym, ap, ap₂, ◌∙◌, inl, inr, arith}
use Rattle.std.proofs.lemmas.Bool.Decides.{eqb_tells}
use Rattle.std.proofs.lemmas.Nat.{xor_lt}
use lib.Bits.{xor_assoc, xor_zero_r}
use Rattle.rs_sector.specs.Field.{field_product, sum_below}
use Rattle.rs_sector.specs.Code.{count_below}
use Rattle.rs_sector.proofs.FieldLaws.{product_of_sum, product_comm, product-zero, product-one, xor_columns}

pub sum-suc : (f : ℕ → ℕ) (n : ℕ) → sum_below f (suc n) ≡ bit_xor (sum_below f n) (f n)
unfolding sum_below
sum-suc f n = refl

pub sum-zero : (f : ℕ → ℕ) → sum_below f 0 ≡ 0
unfolding sum_below
sum-zero f = refl

-- equal terms give equal sums
pub sum_same : (f g : ℕ → ℕ) (n : ℕ) → ((k : ℕ) → k < n → f k ≡ g k) → sum_below f n ≡ sum_below g n
unfolding sum_below
sum_same f g zero e = refl
sum_same f g (suc n) e = ap₂ bit_xor (sum_same f g n (λ k l. e k (omega arith))) (e n (omega arith))

pub sum_of_zeros : (f : ℕ → ℕ) (n : ℕ) → ((k : ℕ) → k < n → f k ≡ 0) → sum_below f n ≡ 0
unfolding sum_below
sum_of_zeros f zero e = refl
sum_of_zeros f (suc n) e = ap₂ bit_xor (sum_of_zeros f n (λ k l. e k (omega arith))) (e n (omega arith))

pub sum_of_sums : (f g : ℕ → ℕ) (n : ℕ) → sum_below (λ k. bit_xor (f k) (g k)) n ≡ bit_xor (sum_below f n) (sum_below g n)
unfolding sum_below
sum_of_sums f g zero = refl
sum_of_sums f g (suc n) = ap (λ x. bit_xor x (bit_xor (f n) (g n))) (sum_of_sums f g n) ∙ xor_columns (sum_below f n) (sum_below g n) (f n) (g n)

pub product_of_sums : (a : ℕ) (f : ℕ → ℕ) (n : ℕ) → field_product a (sum_below f n) ≡ sum_below (λ k. field_product a (f k)) n
unfolding sum_below
product_of_sums a f zero = product-zero a
product_of_sums a f (suc n) = product_of_sum a (sum_below f n) (f n) ∙ ap (λ x. bit_xor x (field_product a (f n))) (product_of_sums a f n)

-- the order of two sums is free
pub sum_swap : (f : ℕ → ℕ → ℕ) (n m : ℕ) → sum_below (λ k. sum_below (f k) m) n ≡ sum_below (λ i. sum_below (λ k. f k i) n) m
unfolding sum_below
sum_swap f zero m = sym (sum_of_zeros (λ i. 0) m (λ k l. refl))
sum_swap f (suc n) m = ap (λ x. bit_xor x (sum_below (f n) m)) (sum_swap f n m) ∙ sym (sum_of_sums (λ i. sum_below (λ k. f k i) n) (f n) m)

pub sum-lt : (f : ℕ → ℕ) (n : ℕ) → ((k : ℕ) → k < n → f k < 256) → sum_below f n < 256
unfolding sum_below
sum-lt f zero h = omega arith
sum-lt f (suc n) h = xor_lt 8 (sum_below f n) (f n) (sum-lt f n (λ k l. h k (omega arith))) (h n (omega arith))

-- the first m terms, and the n after them
pub sum_split : (f : ℕ → ℕ) (m n : ℕ) → sum_below f (m + n) ≡ bit_xor (sum_below f m) (sum_below (λ k. f (m + k)) n)
unfolding sum_below
sum_split f m zero = ap (sum_below f) (let e : m + 0 ≡ m = omega arith in e) ∙ sym (xor_zero_r (sum_below f m))
sum_split f m (suc n) =
    ap (sum_below f) (let e : m + suc n ≡ suc (m + n) = omega arith in e)
    ∙ ap (λ x. bit_xor x (f (m + n))) (sum_split f m n)
    ∙ xor_assoc (sum_below f m) (sum_below (λ k. f (m + k)) n) (f (m + n))

-- the first term, and the others
pub sum_front : (f : ℕ → ℕ) (n : ℕ) → sum_below f (suc n) ≡ bit_xor (f 0) (sum_below (λ k. f (suc k)) n)
unfolding sum_below
sum_front f zero = sym (xor_zero_r (f 0))
sum_front f (suc n) = ap (λ x. bit_xor x (f (suc n))) (sum_front f n) ∙ xor_assoc (f 0) (sum_below (λ k. f (suc k)) n) (f (suc n))

other_zero : (f : ℕ → ℕ) (i j : ℕ) → i < j → field_product (f i) (cond (eqb i j) 1 0) ≡ 0
other_zero f i j l =
    elim (eqb_tells i j) [
      | inl same ↦ absurd (omega (arith, same.1))
      | inr other ↦ ap (λ b. field_product (f i) (cond b 1 0)) other.0 ∙ product-zero (f i)
    ]

pub product_of_sums_first : (a : ℕ) (f : ℕ → ℕ) (n : ℕ) → field_product (sum_below f n) a ≡ sum_below (λ k. field_product (f k) a) n
product_of_sums_first a f n = product_comm (sum_below f n) a ∙ product_of_sums a f n ∙ sum_same _ _ n (λ k l. product_comm a (f k))

-- the sum of f times 1 at j and 0 elsewhere
pub sum_pick : (f : ℕ → ℕ) (j n : ℕ) → f j < 256 → j < n → sum_below (λ i. field_product (f i) (cond (eqb i j) 1 0)) n ≡ f j
unfolding sum_below
sum_pick f j zero byte l = absurd (omega arith)
sum_pick f j (suc n) byte l =
    elim (eqb_tells n j) [
      | inl here ↦
          let before : sum_below (λ i. field_product (f i) (cond (eqb i j) 1 0)) n ≡ 0 =
          sum_of_zeros (λ i. field_product (f i) (cond (eqb i j) 1 0)) n (λ i h. other_zero f i j (omega (arith, here.1))) in
          ap₂ bit_xor before (ap (λ b. field_product (f n) (cond b 1 0)) here.0 ∙ ap (λ i. field_product (f i) 1) here.1 ∙ product-one (f j) byte)
      | inr there ↦
          let less : j < n = omega (arith, there.1) in
          ap₂ bit_xor (sum_pick f j n byte less) (ap (λ b. field_product (f n) (cond b 1 0)) there.0 ∙ product-zero (f n)) ∙ xor_zero_r (f j)
    ]

-- ---- counts

-- a weaker test counts no less
pub count_weaker : (p q : ℕ → Bool) (n : ℕ) → ((k : ℕ) → k < n → p k ≡ true → q k ≡ true) → count_below p n ≤ count_below q n
unfolding count_below
count_weaker p q zero h = omega arith
count_weaker p q (suc n) h = step (p n) (q n) (h n (omega arith)) (count_weaker p q n (λ k l. h k (omega arith)))
  where
    step : (a b : Bool) → (a ≡ true → b ≡ true) → {c d : ℕ} → c ≤ d → c + cond a 1 0 ≤ d + cond b 1 0
    step false b e rest = omega (arith, rest)
    step true true e rest = omega (arith, rest)
    step true false e rest = let f : false ≡ true = e refl in cc

pub count_same : (p q : ℕ → Bool) (n : ℕ) → ((k : ℕ) → k < n → p k ≡ q k) → count_below p n ≡ count_below q n
unfolding count_below
count_same p q zero h = refl
count_same p q (suc n) h = ap₂ (λ a b. a + cond b 1 0) (count_same p q n (λ k l. h k (omega arith))) (h n (omega arith))

pub count-le : (p : ℕ → Bool) (n : ℕ) → count_below p n ≤ n
unfolding count_below
count-le p zero = omega arith
count-le p (suc n) = step (p n) (count-le p n)
  where
    step : (a : Bool) → {c : ℕ} → c ≤ n → c + cond a 1 0 ≤ suc n
    step true rest = omega (arith, rest)
    step false rest = omega (arith, rest)

pub count_none : (p : ℕ → Bool) (n : ℕ) → ((k : ℕ) → k < n → p k ≡ false) → count_below p n ≡ 0
unfolding count_below
count_none p zero h = refl
count_none p (suc n) h = ap₂ (λ a b. a + cond b 1 0) (count_none p n (λ k l. h k (omega arith))) (h n (omega arith))

-- what none of the first m numbers passes, at most the n after them pass
pub count_late : (p : ℕ → Bool) (m n : ℕ) → ((k : ℕ) → k < m → p k ≡ false) → count_below p (m + n) ≤ n
unfolding count_below
count_late p m zero h = let e : count_below p (m + 0) ≡ 0 = ap (count_below p) (let f : m + 0 ≡ m = omega arith in f) ∙ count_none p m h in omega arith
count_late p m (suc n) h = step (p (m + n)) (ap (count_below p) (let f : m + suc n ≡ suc (m + n) = omega arith in f)) (count_late p m n h)
  where
    step : (b : Bool) {c d : ℕ} → d ≡ c + cond b 1 0 → c ≤ n → d ≤ suc n
    step true e l = omega (arith, l)
    step false e l = omega (arith, l)

-- either of two tests counts no more than both together
pub count_either : (p q : ℕ → Bool) (n : ℕ) → count_below (λ k. p k || q k) n ≤ count_below p n + count_below q n
unfolding count_below
count_either p q zero = omega arith
count_either p q (suc n) = step (p n) (q n) (count_below p n) (count_below q n) (count_either p q n)
  where
    step : (a b : Bool) (d e : ℕ) {c : ℕ} → c ≤ d + e → c + cond (a || b) 1 0 ≤ d + cond a 1 0 + (e + cond b 1 0)
    step true true d e h = omega (arith, h)
    step true false d e h = omega (arith, h)
    step false true d e h = omega (arith, h)
    step false false d e h = omega (arith, h)

pub count-suc : (p : ℕ → Bool) (n : ℕ) → count_below p (suc n) ≡ count_below p n + cond (p n) 1 0
unfolding count_below
count-suc p n = refl

-- more numbers count no less
pub count_longer : (p : ℕ → Bool) (m n : ℕ) → count_below p m ≤ count_below p (m + n)
count_longer p m zero = let e : count_below p (m + 0) ≡ count_below p m = ap (count_below p) (let f : m + 0 ≡ m = omega arith in f) in omega arith
count_longer p m (suc n) =
    let e : count_below p (m + suc n) ≡ count_below p (m + n) + cond (p (m + n)) 1 0 = ap (count_below p) (let f : m + suc n ≡ suc (m + n) = omega arith in f) ∙ count-suc p (m + n) in
    let shorter : count_below p m ≤ count_below p (m + n) = count_longer p m n in
    omega arith
