-- Power sums: few values at distinct points whose sums are 0 are all 0.
use Rattle.std.proofs.Common.{◌≡◌, ◌≢◌, ℕ, zero, suc, ◌+◌, ◌<◌, ◌≤◌, Bool, true, false, cond, not, eqb, bit_xor, refl, sym, ap, ap₂, ◌∙◌, subst, inl, inr, arith, eqb-true}
use Rattle.std.proofs.lemmas.Bool.{cases_lt}
use Rattle.std.proofs.lemmas.Bool.Decides.{nat_tests}
use Rattle.std.proofs.lemmas.Nat.{xor_lt}
use lib.Bits.{xor_self, xor_zero_r}
use Rattle.rs_sector.specs.Field.{field_product, power}
use Rattle.rs_sector.specs.Code.{count_below}
use Rattle.rs_sector.specs.Locating.{power_sum, AreApart}
use Rattle.rs_sector.proofs.FieldLaws.{product-lt, product_comm, product_assoc, product-one, product-zero, product_zero_first, product_of_sum, product_of_sum_first, same_from_xor}
use Rattle.rs_sector.proofs.Powers.{power-zero, power-suc}
use Rattle.rs_sector.proofs.ProductTables.{has_inverse}
use Rattle.rs_sector.proofs.Sums.{sum-suc, sum_same, sum_of_zeros, sum_of_sums, product_of_sums, count_weaker}

-- a product is 0 only where a factor is
pub cancel : (a b : ℕ) → a < 256 → b < 256 → b ≢ 0 → field_product a b ≡ 0 → a ≡ 0
cancel a b la lb ne e =
    let inverse = has_inverse b lb ne in
    sym (product-one a la) ∙ ap (field_product a) (sym inverse.1) ∙ sym (product_assoc a b inverse.0) ∙ ap (λ x. field_product x inverse.0) e ∙ product_zero_first inverse.0

-- the distance of two points is not 0
pub apart : (a b : ℕ) → a ≢ b → bit_xor a b ≢ 0
apart a b ne e = ne (same_from_xor a b e)

-- values times the distance of their points from y: each sum becomes the next, plus y times itself
pub eliminated : (u x : ℕ → ℕ) (y n j : ℕ) → power_sum (λ k. field_product (u k) (bit_xor (x k) y)) x n j ≡ bit_xor (power_sum u x n (suc j)) (field_product y (power_sum u x n j))
eliminated u x y n j =
    sum_same _ (λ k. bit_xor (field_product (u k) (power (x k) (suc j))) (field_product y (field_product (u k) (power (x k) j)))) n (λ k l. term (u k) (x k) (power (x k) j) (power-suc (x k) j))
    ∙ sum_of_sums (λ k. field_product (u k) (power (x k) (suc j))) (λ k. field_product y (field_product (u k) (power (x k) j))) n
    ∙ ap (bit_xor (power_sum u x n (suc j))) (sym (product_of_sums y (λ k. field_product (u k) (power (x k) j)) n))
  where
    term : (a z p : ℕ) → {q : ℕ} → q ≡ field_product z p → field_product (field_product a (bit_xor z y)) p ≡ bit_xor (field_product a q) (field_product y (field_product a p))
    term a z p e =
        ap (λ t. field_product t p) (product_of_sum a z y) ∙ product_of_sum_first (field_product a z) (field_product a y) p
        ∙ ap₂ bit_xor (product_assoc a z p ∙ ap (field_product a) (sym e)) (ap (λ t. field_product t p) (product_comm a y) ∙ product_assoc y a p)

-- a product is a value only where its first factor is
kept_at : (a b : ℕ) → not (eqb (field_product a b) 0) ≡ true → not (eqb a 0) ≡ true
kept_at zero b h = let e : eqb (field_product 0 b) 0 ≡ true = ap (λ z. eqb z 0) (product_zero_first b) in cc
kept_at (suc a) b h = grind (arith, nat_tests)

abbrev pub is_value : (ℕ → ℕ) → ℕ → Bool
is_value u k = not (eqb (u k) 0)

-- at n distinct points, at most m values whose first m sums are 0 are all 0
abbrev pub Vanishes : ℕ → Type 0
Vanishes n =
    (m : ℕ) (u x : ℕ → ℕ) → AreApart x n → ((k : ℕ) → x k < 256) → ((k : ℕ) → u k < 256) → count_below (is_value u) n ≤ m → ((j : ℕ) → j < m → power_sum u x n j ≡ 0)
    → (k : ℕ) → k < n → u k ≡ 0

-- one place more: drop it where its value is 0, and else eliminate it
vanishing_more : (n : ℕ) → Vanishes n → Vanishes (suc n)
unfolding count_below
vanishing_more n fewer m u x distinct points bytes few zeros = step (eqb (u n) 0) refl m few zeros
  where
    step : (b : Bool) → eqb (u n) 0 ≡ b → (m : ℕ) → count_below (is_value u) n + cond (not b) 1 0 ≤ m → ((j : ℕ) → j < m → power_sum u x (suc n) j ≡ 0) → (k : ℕ) → k < suc n → u k ≡ 0
    step true last m few zeros k l =
        let none : u n ≡ 0 = eqb-true _ _ last in
        let rest : (j : ℕ) → j < m → power_sum u x n j ≡ 0 =
        λ j h. sym (xor_zero_r _) ∙ ap (bit_xor (power_sum u x n j)) (sym (ap (λ a. field_product a (power (x n) j)) none ∙ product_zero_first _)) ∙ sym (sum-suc (λ k. field_product (u k) (power (x k) j)) n) ∙ zeros j h in
        elim (cases_lt k n) [
          | inl h ↦ fewer m u x (λ i k p q. distinct i k p (omega arith)) points bytes (omega arith) rest k h
          | inr h ↦ let e : n ≡ k = omega arith in subst (λ i. u i ≡ 0) e none
        ]
    step false last zero few zeros k l = absurd (omega arith)
    step false last (suc m) few zeros k l =
        let v : ℕ → ℕ = λ k. field_product (u k) (bit_xor (x k) (x n)) in
        let gone : v n ≡ 0 = ap (field_product (u n)) (xor_self (x n)) ∙ product-zero (u n) in
        let kept : (k : ℕ) → k < n → is_value v k ≡ true → is_value u k ≡ true = λ k h. kept_at (u k) (bit_xor (x k) (x n)) in
        let rest : (j : ℕ) → j < m → power_sum v x n j ≡ 0 =
        λ j h. sym (xor_zero_r _) ∙ ap (bit_xor (power_sum v x n j)) (sym (ap (λ a. field_product a (power (x n) j)) gone ∙ product_zero_first _)) ∙ sym (sum-suc (λ k. field_product (v k) (power (x k) j)) n)
        ∙ eliminated u x (x n) (suc n) j ∙ ap₂ (λ s t. bit_xor s (field_product (x n) t)) (zeros (suc j) (omega arith)) (zeros j (omega arith)) ∙ product-zero (x n) in
        let before : (k : ℕ) → k < n → u k ≡ 0 =
        λ k h. cancel (u k) (bit_xor (x k) (x n)) (bytes k) (xor_lt 8 (x k) (x n) (points k) (points n)) (apart (x k) (x n) (distinct k n h (omega arith)))
        (fewer m v x (λ i k p q. distinct i k p (omega arith)) points (λ k. product-lt (u k) (bit_xor (x k) (x n))) (omega (arith, count_weaker (is_value v) (is_value u) n kept)) rest k h) in
        let alone : u n ≡ 0 =
        sym (product-one (u n) (bytes n)) ∙ ap (field_product (u n)) (sym (power-zero (x n)))
        ∙ ap (λ s. bit_xor s (field_product (u n) (power (x n) 0))) (sym (sum_of_zeros (λ k. field_product (u k) (power (x k) 0)) n (λ k h. ap (λ a. field_product a (power (x k) 0)) (before k h) ∙ product_zero_first _)))
        ∙ sym (sum-suc (λ k. field_product (u k) (power (x k) 0)) n) ∙ zeros 0 (omega arith) in
        elim (cases_lt k n) [
          | inl h ↦ before k h
          | inr h ↦ let e : n ≡ k = omega arith in subst (λ i. u i ≡ 0) e alone
        ]

pub vanishing : (n : ℕ) → Vanishes n
vanishing zero = λ m u x distinct points bytes few zeros k l. absurd (omega arith)
vanishing (suc n) = vanishing_more n (vanishing n)
