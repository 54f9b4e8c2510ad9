-- Powers in the field, inverses, and the points of a word's places.
use Rattle.std.proofs.Common.{◌≡◌, ◌≢◌, ℕ, zero, suc, ◌+◌, ◌*◌, ◌<◌, Bool, T, eqb, List, get_or, refl, sym, ap, ◌∙◌, arith, eqb→eq}
use Rattle.std.proofs.Math.Nat.{mul_comm, mul-suc, mul-zero}
use Rattle.rs_sector.specs.Field.{field_product, power}
use Rattle.rs_sector.proofs.FieldLaws.{all_below, every_below, product-one, product-lt, product_assoc, product_one_first}

pub power-lt : (a n : ℕ) → power a n < 256
unfolding power
power-lt a zero = omega arith
power-lt a (suc n) = product-lt a (power a n)

pub power-zero : (a : ℕ) → power a 0 ≡ 1
unfolding power
power-zero a = refl

pub power-suc : (a n : ℕ) → power a (suc n) ≡ field_product a (power a n)
unfolding power
power-suc a n = refl

pub power-add : (a i j : ℕ) → power a (i + j) ≡ field_product (power a i) (power a j)
power-add a zero j = ap (power a) (let e : 0 + j ≡ j = omega arith in e) ∙ sym (ap (λ x. field_product x (power a j)) (power-zero a) ∙ product_one_first (power a j) (power-lt a j))
power-add a (suc i) j =
    ap (power a) (let e : suc i + j ≡ suc (i + j) = omega arith in e) ∙ power-suc a (i + j) ∙ ap (field_product a) (power-add a i j) ∙ sym (product_assoc a (power a i) (power a j))
    ∙ ap (λ x. field_product x (power a j)) (sym (power-suc a i))

pub power-power : (a i j : ℕ) → power (power a i) j ≡ power a (i * j)
power-power a i zero = power-zero (power a i) ∙ sym (ap (power a) (mul-zero i) ∙ power-zero a)
power-power a i (suc j) =
    power-suc (power a i) j ∙ ap (field_product (power a i)) (power-power a i j) ∙ sym (power-add a i (i * j)) ∙ ap (power a) (let e : i + i * j ≡ i * suc j = omega (arith, mul-suc i j) in e)

-- the order of two exponents is free
pub power_of_power : (a i j : ℕ) → power (power a i) j ≡ power (power a j) i
power_of_power a i j = power-power a i j ∙ ap (power a) (mul_comm i j) ∙ sym (power-power a j i)

-- ---- inverses

-- the table has an inverse of each byte but 0
abbrev pub inverts : List ℕ → Bool
inverts table = all_below (λ i. eqb (field_product (suc i) (get_or table (suc i) 0)) 1) 255

pub inverse_from : (table : List ℕ) → T (inverts table) → (a : ℕ) → a < 256 → a ≢ 0 → field_product a (get_or table a 0) ≡ 1
inverse_from table h zero l ne = absurd (ne refl)
inverse_from table h (suc a) l ne = eqb→eq _ _ (every_below (λ i. eqb (field_product (suc i) (get_or table (suc i) 0)) 1) 255 h a (omega arith))

pub power-one : (a : ℕ) → a < 256 → power a 1 ≡ a
power-one a l = power-suc a 0 ∙ ap (field_product a) (power-zero a) ∙ product-one a l
