-- The errors of a word against a codeword in reach: where they are erased or a root of the locator, and how few such places there are.
use Rattle.std.proofs.Common.{◌≡◌, ◌≢◌, ◌⊎◌, ℕ, zero, suc, ◌+◌, ◌-◌, ◌*◌, ◌/◌, ◌<◌, ◌≤◌, Bool, true, false, cond, not, ◌&&◌, ◌||◌, eqb, List, length, bit_xor, refl, sym, ap, ap₂, ◌∙◌, subst, inl, inr, arith}
use Rattle.std.proofs.lemmas.Bool.{cases_lt, true≢false, eqb-false}
use Rattle.std.proofs.lemmas.Bool.Decides.{eqb_tells}
use Rattle.std.proofs.lemmas.Nat.{xor_lt}
use lib.Bits.{xor_self, xor_zero_r}
use Rattle.rs_sector.specs.Field.{field_product, power, sum_below}
use Rattle.rs_sector.specs.Code.{point, IsCodeword, AreBytes, count_below, differs_at, syndromes_of}
use Rattle.rs_sector.specs.Decoding.{is_marked, marked, differing_outside, IsNearErased}
use Rattle.rs_sector.specs.Locating.{power_sum, AreSums, eliminated_values, row_sum, polynomial_at, IsLocator, is_suspect}
use Rattle.rs_sector.specs.Lanes.{Eliminates}
use Rattle.rs_sector.proofs.FieldLaws.{product-lt, product_comm, product_assoc, product-zero, product_zero_first}
use Rattle.rs_sector.proofs.Powers.{power-lt, power-add}
use Rattle.rs_sector.proofs.Sums.{sum-lt, sum_same, sum_of_zeros, sum_split, sum_swap, product_of_sums, product_of_sums_first, count_weaker, count_same, count_either, count-suc}
use Rattle.rs_sector.proofs.Vanishing.{cancel, apart, eliminated, is_value, vanishing}
use Rattle.rs_sector.proofs.Codewords.{at, points_apart, places_apart, value_is_sum, difference_sum, syndrome}
use Rattle.rs_sector.proofs.Roots.{evaluated, is_root, few_roots}

abbrev pub errors : List ℕ → List ℕ → ℕ → ℕ
errors word codeword k = bit_xor (at word k) (at codeword k)

-- the sums of a word are those of its errors
pub error_sums : (word codeword sums : List ℕ) → length word ≡ 148 → IsCodeword codeword → sums ≡ syndromes_of word → AreSums sums 16 (errors word codeword)
error_sums word codeword sums long code e j l =
    ap (λ s. at s j) e ∙ syndrome word j l ∙ value_is_sum word long j ∙ sym (xor_zero_r (power_sum (at word) point 148 j))
    ∙ ap (bit_xor (power_sum (at word) point 148 j)) (sym (code.zeros j l) ∙ value_is_sum codeword code.long j)
    ∙ sym (difference_sum word codeword j)

-- ---- the elimination of the erased places

marked_step : (erased : List Bool) (u : ℕ → ℕ) (n k : ℕ) → is_marked erased n ≡ true → eliminated_values erased u (suc n) k ≡ field_product (eliminated_values erased u n k) (bit_xor (point k) (point n))
unfolding eliminated_values
marked_step erased u n k e = ap (λ b. cond b (field_product (eliminated_values erased u n k) (bit_xor (point k) (point n))) (eliminated_values erased u n k)) e

unmarked_step : (erased : List Bool) (u : ℕ → ℕ) (n k : ℕ) → is_marked erased n ≡ false → eliminated_values erased u (suc n) k ≡ eliminated_values erased u n k
unfolding eliminated_values
unmarked_step erased u n k e = ap (λ b. cond b (field_product (eliminated_values erased u n k) (bit_xor (point k) (point n))) (eliminated_values erased u n k)) e

pub eliminated_start : (erased : List Bool) (u : ℕ → ℕ) (k : ℕ) → eliminated_values erased u 0 k ≡ u k
unfolding eliminated_values
eliminated_start erased u k = refl

pub tell : (b : Bool) → (b ≡ true) ⊎ (b ≡ false)
tell true = inl refl
tell false = inr refl

eliminated_byte : (erased : List Bool) (u : ℕ → ℕ) → ((k : ℕ) → u k < 256) → (n k : ℕ) → eliminated_values erased u n k < 256
eliminated_byte erased u bytes zero k = subst (λ x. x < 256) (sym (eliminated_start erased u k)) (bytes k)
eliminated_byte erased u bytes (suc n) k =
    elim (tell (is_marked erased n)) [
      | inl m ↦ subst (λ x. x < 256) (sym (marked_step erased u n k m)) (product-lt (eliminated_values erased u n k) (bit_xor (point k) (point n)))
      | inr m ↦ subst (λ x. x < 256) (sym (unmarked_step erased u n k m)) (eliminated_byte erased u bytes n k)
    ]

-- where the value was 0 it stays 0
eliminated_zero : (erased : List Bool) (u : ℕ → ℕ) (n k : ℕ) → u k ≡ 0 → eliminated_values erased u n k ≡ 0
eliminated_zero erased u zero k e = eliminated_start erased u k ∙ e
eliminated_zero erased u (suc n) k e =
    elim (tell (is_marked erased n)) [
      | inl m ↦ marked_step erased u n k m ∙ ap (λ x. field_product x (bit_xor (point k) (point n))) (eliminated_zero erased u n k e) ∙ product_zero_first (bit_xor (point k) (point n))
      | inr m ↦ unmarked_step erased u n k m ∙ eliminated_zero erased u n k e
    ]

-- at an erased place it becomes 0
eliminated_gone : (erased : List Bool) (u : ℕ → ℕ) (n k : ℕ) → k < n → is_marked erased k ≡ true → eliminated_values erased u n k ≡ 0
eliminated_gone erased u zero k l h = absurd (omega arith)
eliminated_gone erased u (suc n) k l h =
    elim (cases_lt k n) [
      | inl less ↦
          let before : eliminated_values erased u n k ≡ 0 = eliminated_gone erased u n k less h in
          elim (tell (is_marked erased n)) [
            | inl m ↦ marked_step erased u n k m ∙ ap (λ x. field_product x (bit_xor (point k) (point n))) before ∙ product_zero_first (bit_xor (point k) (point n))
            | inr m ↦ unmarked_step erased u n k m ∙ before
          ]
      | inr most ↦
          let same : k ≡ n = omega arith in
          marked_step erased u n k (ap (is_marked erased) (sym same) ∙ h)
          ∙ ap (field_product (eliminated_values erased u n k)) (ap (λ i. bit_xor (point k) (point i)) (sym same) ∙ xor_self (point k)) ∙ product-zero (eliminated_values erased u n k)
    ]

-- at another place it is 0 only where it was
eliminated_kept : (erased : List Bool) (u : ℕ → ℕ) → ((k : ℕ) → u k < 256) → (n k : ℕ) → n ≤ 148 → k < 148 → is_marked erased k ≡ false → eliminated_values erased u n k ≡ 0 → u k ≡ 0
eliminated_kept erased u bytes zero k small l h e = sym (eliminated_start erased u k) ∙ e
eliminated_kept erased u bytes (suc n) k small l h e =
    elim (tell (is_marked erased n)) [
      | inl m ↦
          let other : k ≢ n = λ same. true≢false (sym m ∙ ap (is_marked erased) (sym same) ∙ h) in
          let far : point k ≢ point n = places_apart k n l (omega arith) other in
          eliminated_kept erased u bytes n k (omega arith) l h
          (cancel (eliminated_values erased u n k) (bit_xor (point k) (point n)) (eliminated_byte erased u bytes n k) (xor_lt 8 (point k) (point n) (power-lt 2 (147 - k)) (power-lt 2 (147 - n))) (apart (point k) (point n) far)
          (sym (marked_step erased u n k m) ∙ e))
      | inr m ↦ eliminated_kept erased u bytes n k (omega arith) l h (sym (unmarked_step erased u n k m) ∙ e)
    ]

-- the sums after one place more, which lose the last
pub eliminated_more : (erased : List Bool) (u : ℕ → ℕ) (n c : ℕ) (old new : List ℕ) → is_marked erased n ≡ true → ((j : ℕ) → j + c < 16 → at old j ≡ power_sum (eliminated_values erased u n) point 148 j)
    → ((j : ℕ) → j < 15 → at new j ≡ bit_xor (at old (j + 1)) (field_product (point n) (at old j))) → (j : ℕ) → j + (c + 1) < 16 → at new j ≡ power_sum (eliminated_values erased u (suc n)) point 148 j
eliminated_more erased u n c old new m sums step j l =
    step j (omega arith)
    ∙ ap₂ (λ a b. bit_xor a (field_product (point n) b)) (sums (j + 1) (omega arith) ∙ ap (power_sum (eliminated_values erased u n) point 148) (let e : j + 1 ≡ suc j = omega arith in e)) (sums j (omega arith))
    ∙ sym (eliminated (eliminated_values erased u n) point (point n) 148 j)
    ∙ sum_same _ _ 148 (λ k h. ap (λ x. field_product x (power (point k) j)) (sym (marked_step erased u n k m)))

pub eliminated_same : (erased : List Bool) (u : ℕ → ℕ) (n j : ℕ) → is_marked erased n ≡ false → power_sum (eliminated_values erased u n) point 148 j ≡ power_sum (eliminated_values erased u (suc n)) point 148 j
eliminated_same erased u n j m = sum_same _ _ 148 (λ k h. ap (λ x. field_product x (power (point k) j)) (sym (unmarked_step erased u n k m)))

-- ---- the locator

-- the sums of the values times the polynomial are its sums with their sums
located_sums : (e : ℕ → ℕ) (rest polynomial : List ℕ) (rows free j : ℕ) → ((j : ℕ) → j < free → at rest j ≡ power_sum e point 148 j) → ((i : ℕ) → rows < i → at polynomial i ≡ 0) → j + rows < free
    → power_sum (λ k. field_product (e k) (polynomial_at polynomial (point k))) point 148 j ≡ row_sum rest polynomial j
unfolding polynomial_at row_sum
located_sums e rest polynomial rows free j sums above l =
    sum_same _ (λ k. sum_below (λ i. field_product (at polynomial i) (field_product (e k) (power (point k) (i + j)))) 9) 148 (λ k h.
    ap (λ x. field_product x (power (point k) j)) (product_of_sums (e k) (λ i. field_product (at polynomial i) (power (point k) i)) 9)
    ∙ product_of_sums_first (power (point k) j) (λ i. field_product (e k) (field_product (at polynomial i) (power (point k) i))) 9
    ∙ sum_same _ _ 9 (λ i b. term (e k) (at polynomial i) (power (point k) i) (power (point k) j) (power-add (point k) i j)))
    ∙ sum_swap (λ k i. field_product (at polynomial i) (field_product (e k) (power (point k) (i + j)))) 148 9
    ∙ sum_same _ _ 9 (λ i b.
    sym (product_of_sums (at polynomial i) (λ k. field_product (e k) (power (point k) (i + j))) 148)
    ∙ elim (cases_lt rows i) [
      | inl past ↦ ap (λ x. field_product x (power_sum e point 148 (i + j))) (above i past) ∙ product_zero_first (power_sum e point 148 (i + j)) ∙ sym (ap (λ x. field_product x (at rest (i + j))) (above i past) ∙ product_zero_first (at rest (i + j)))
      | inr low ↦ ap (field_product (at polynomial i)) (sym (sums (i + j) (omega arith)))
    ])
  where
    term : (a v p q : ℕ) → {r : ℕ} → r ≡ field_product p q → field_product (field_product a (field_product v p)) q ≡ field_product v (field_product a r)
    term a v p q e =
        ap (λ z. field_product z q) (sym (product_assoc a v p) ∙ ap (λ z. field_product z p) (product_comm a v) ∙ product_assoc v a p)
        ∙ product_assoc v (field_product a p) q ∙ ap (field_product v) (product_assoc a p q ∙ ap (field_product a) (sym e))

no_value : (a b : ℕ) → a ≡ 0 → is_value (λ _. field_product a b) 0 ≡ false
no_value a b e = ap (λ z. not (eqb z 0)) (ap (λ z. field_product z b) e ∙ product_zero_first b)

-- a value that is left stands where the words differ outside the erased places
value_outside : (word codeword polynomial : List ℕ) (erased : List Bool) (k : ℕ) → k < 148
    → is_value (λ k. field_product (eliminated_values erased (errors word codeword) 148 k) (polynomial_at polynomial (point k))) k ≡ true → (differs_at word codeword k && not (is_marked erased k)) ≡ true
value_outside word codeword polynomial erased k l v =
    let u : ℕ → ℕ = errors word codeword in
    let e : ℕ = eliminated_values erased u 148 k in
    elim (tell (is_marked erased k)) [
      | inl m ↦ absurd (true≢false (sym v ∙ no_value e (polynomial_at polynomial (point k)) (eliminated_gone erased u 148 k l m)))
      | inr m ↦
          elim (eqb_tells (at word k) (at codeword k)) [
            | inl same ↦ absurd (true≢false (sym v ∙ no_value e (polynomial_at polynomial (point k)) (eliminated_zero erased u 148 k (ap (λ z. bit_xor z (at codeword k)) same.1 ∙ xor_self (at codeword k)))))
            | inr other ↦ ap₂ (λ a b. not a && not b) other.0 m
          ]
    ]

neither : (a b : Bool) → (a || b) ≡ false → (a ≡ false) × (b ≡ false)
neither true b e = absurd (true≢false e)
neither false b e = (refl, e)

polynomial_at-lt : (polynomial : List ℕ) (x : ℕ) → polynomial_at polynomial x < 256
unfolding polynomial_at
polynomial_at-lt polynomial x = sum-lt _ 9 (λ i l. product-lt (at polynomial i) (power x i))

-- each error is erased or a root
pub located : (word codeword rest polynomial : List ℕ) (erased : List Bool) (rows : ℕ) → length word ≡ 148 → AreBytes word → IsNearErased word erased codeword → rows ≡ (16 - marked erased) / 2
    → ((j : ℕ) → j + marked erased < 16 → at rest j ≡ power_sum (eliminated_values erased (errors word codeword) 148) point 148 j) → IsLocator rest rows polynomial
    → (k : ℕ) → k < 148 → is_suspect erased polynomial k ≡ false → errors word codeword k ≡ 0
unfolding marked differing_outside
located word codeword rest polynomial erased rows long bytes near er sums locator k l none =
    let u : ℕ → ℕ = errors word codeword in
    let e : ℕ → ℕ = eliminated_values erased u 148 in
    let w : ℕ → ℕ = λ k. field_product (e k) (polynomial_at polynomial (point k)) in
    let f : ℕ = marked erased in
    let error_bytes : (k : ℕ) → u k < 256 = λ k. xor_lt 8 (at word k) (at codeword k) (bytes k) (near.is_codeword.bytes k) in
    let reach : 2 * differing_outside erased word codeword + f ≤ 16 = near.near in
    let few : count_below (is_value w) 148 ≤ rows =
    let weaker : count_below (is_value w) 148 ≤ differing_outside erased word codeword = count_weaker (is_value w) (λ k. differs_at word codeword k && not (is_marked erased k)) 148 (λ k h v. value_outside word codeword polynomial erased k h v) in
    omega arith in
    let zeros : (j : ℕ) → j < rows → power_sum w point 148 j ≡ 0 =
    λ j h. located_sums e rest polynomial rows (16 - f) j (λ j b. sums j (omega arith)) (λ i past. locator.monic.above i (omega (arith, locator.low))) (omega arith) ∙ locator.rows_vanish j h in
    let value : w k ≡ 0 = vanishing 148 rows w point points_apart (λ k. power-lt 2 (147 - k)) (λ k. product-lt (e k) (polynomial_at polynomial (point k))) few zeros k l in
    let two = neither (is_marked erased k) (eqb (polynomial_at polynomial (point k)) 0) none in
    eliminated_kept erased u error_bytes 148 k (omega arith) l two.0
    (cancel (e k) (polynomial_at polynomial (point k)) (eliminated_byte erased u error_bytes 148 k) (polynomial_at-lt polynomial (point k)) (eqb-false (polynomial_at polynomial (point k)) 0 two.1) value)

-- ---- how few places are suspect

root_of_degree : (polynomial : List ℕ) (degree x : ℕ) → degree ≤ 8 → ((i : ℕ) → degree < i → at polynomial i ≡ 0) → polynomial_at polynomial x ≡ evaluated (at polynomial) (suc degree) x
unfolding polynomial_at
root_of_degree polynomial degree x low above =
    ap (sum_below (λ i. field_product (at polynomial i) (power x i))) (let e : 9 ≡ suc degree + (8 - degree) = omega arith in e)
    ∙ sum_split (λ i. field_product (at polynomial i) (power x i)) (suc degree) (8 - degree)
    ∙ ap (bit_xor (evaluated (at polynomial) (suc degree) x)) (sum_of_zeros _ (8 - degree) (λ i l. ap (λ z. field_product z (power x (suc degree + i))) (above (suc degree + i) (omega arith)) ∙ product_zero_first (power x (suc degree + i))))
    ∙ xor_zero_r (evaluated (at polynomial) (suc degree) x)

pub few_suspects : (erased : List Bool) (rest polynomial : List ℕ) (rows : ℕ) → marked erased ≤ 16 → rows ≡ (16 - marked erased) / 2 → IsLocator rest rows polynomial → count_below (is_suspect erased polynomial) 148 ≤ 16
unfolding marked
few_suspects erased rest polynomial rows few er locator =
    let low : locator.degree ≤ 8 = omega (arith, locator.low) in
    let highest : at polynomial locator.degree ≢ 0 = λ z. absurd (omega (arith, locator.monic.highest)) in
    let roots : count_below (is_root (at polynomial) locator.degree point) 148 ≤ locator.degree =
    few_roots 148 locator.degree (at polynomial) point locator.bytes locator.monic.above highest points_apart (λ k. power-lt 2 (147 - k)) in
    let same : count_below (λ k. eqb (polynomial_at polynomial (point k)) 0) 148 ≡ count_below (is_root (at polynomial) locator.degree point) 148 =
    count_same _ _ 148 (λ k l. ap (λ z. eqb z 0) (root_of_degree polynomial locator.degree (point k) low locator.monic.above)) in
    let both : count_below (is_suspect erased polynomial) 148 ≤ count_below (is_marked erased) 148 + count_below (λ k. eqb (polynomial_at polynomial (point k)) 0) 148 =
    count_either (is_marked erased) (λ k. eqb (polynomial_at polynomial (point k)) 0) 148 in
    omega (arith, locator.low)

-- ---- the sums while the erased places are eliminated

-- the sums that are left after the places below n
abbrev pub LeavesSums : List ℕ → List Bool → List ℕ → ℕ → Type 0
LeavesSums sums erased rest n =
    (values : ℕ → ℕ) → AreSums sums 16 values → (j : ℕ) → j + count_below (is_marked erased) n < 16 → at rest j ≡ power_sum (eliminated_values erased values n) point 148 j

pub leaves_none : (sums : List ℕ) (erased : List Bool) → LeavesSums sums erased sums 0
unfolding count_below
leaves_none sums erased values are j l = are j (omega arith) ∙ sum_same _ _ 148 (λ k h. ap (λ x. field_product x (power (point k) j)) (sym (eliminated_start erased values k)))

pub leaves_marked : (sums : List ℕ) (erased : List Bool) (old new : List ℕ) (n : ℕ) → is_marked erased n ≡ true → Eliminates old new (point n) → LeavesSums sums erased old n → LeavesSums sums erased new (n + 1)
leaves_marked sums erased old new n m step before values are j l =
    let next : suc n ≡ n + 1 = omega arith in
    let counted : count_below (is_marked erased) (n + 1) ≡ count_below (is_marked erased) n + 1 =
    ap (count_below (is_marked erased)) (sym next) ∙ count-suc (is_marked erased) n ∙ ap (λ b. count_below (is_marked erased) n + cond b 1 0) m in
    eliminated_more erased values n (count_below (is_marked erased) n) old new m (before values are) step.sums j (omega arith)
    ∙ ap (λ i. power_sum (eliminated_values erased values i) point 148 j) next

pub leaves_unmarked : (sums : List ℕ) (erased : List Bool) (rest : List ℕ) (n : ℕ) → is_marked erased n ≡ false → LeavesSums sums erased rest n → LeavesSums sums erased rest (n + 1)
leaves_unmarked sums erased rest n m before values are j l =
    let next : suc n ≡ n + 1 = omega arith in
    let counted : count_below (is_marked erased) (n + 1) ≡ count_below (is_marked erased) n =
    ap (count_below (is_marked erased)) (sym next) ∙ count-suc (is_marked erased) n ∙ ap (λ b. count_below (is_marked erased) n + cond b 1 0) m ∙ omega arith in
    before values are j (omega arith) ∙ eliminated_same erased values n j m ∙ ap (λ i. power_sum (eliminated_values erased values i) point 148 j) next

pub leaves_all : (sums : List ℕ) (erased : List Bool) (rest : List ℕ) (n : ℕ) → n ≡ 148 → LeavesSums sums erased rest n
    → (values : ℕ → ℕ) → AreSums sums 16 values → (j : ℕ) → j + marked erased < 16 → at rest j ≡ power_sum (eliminated_values erased values 148) point 148 j
unfolding marked
leaves_all sums erased rest n e all values are j l =
    all values are j (subst (λ m. j + count_below (is_marked erased) m < 16) (sym e) l) ∙ ap (λ m. power_sum (eliminated_values erased values m) point 148 j) e
