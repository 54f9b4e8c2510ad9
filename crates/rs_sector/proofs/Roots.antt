-- A polynomial has no more roots than its degree: it is divided by each.
use Rattle.std.proofs.Common.{◌≡◌, ◌≢◌, ℕ, zero, suc, ◌+◌, ◌<◌, ◌≤◌, Bool, true, false, cond, eqb, bit_xor, refl, sym, ap, ap₂, ◌∙◌, subst, arith, eq-eqb, eqb-true}
use Rattle.std.proofs.lemmas.Nat.{xor_lt}
use lib.Bits.{xor_assoc, xor_self, xor_zero_r}
use Rattle.rs_sector.specs.Field.{field_product, power, sum_below}
use Rattle.rs_sector.specs.Code.{count_below}
use Rattle.rs_sector.specs.Locating.{AreApart}
use Rattle.rs_sector.proofs.FieldLaws.{product-lt, product_comm, product_assoc, product-one, product-zero, product_zero_first, product_of_sum, product_of_sum_first, xor_columns}
use Rattle.rs_sector.proofs.Powers.{power-zero, power-suc}
use Rattle.rs_sector.proofs.Sums.{sum-zero, sum-lt, sum_front, sum_same, sum_of_sums, product_of_sums, count_weaker}
use Rattle.rs_sector.proofs.Vanishing.{cancel, apart}

-- what stands in both sums is gone
without_middle : (a b c : ℕ) → bit_xor (bit_xor a b) (bit_xor b c) ≡ bit_xor a c
without_middle a b c = xor_assoc a b (bit_xor b c) ∙ ap (bit_xor a) (sym (xor_assoc b b c) ∙ ap (λ z. bit_xor z c) (xor_self b))

-- the value at x of the polynomial with the first m coefficients of v
abbrev pub evaluated : (ℕ → ℕ) → ℕ → ℕ → ℕ
evaluated v m x = sum_below (λ i. field_product (v i) (power x i)) m

-- the polynomial without its first coefficient, divided by x
abbrev pub shifted : (ℕ → ℕ) → ℕ → ℕ
shifted v i = v (suc i)

-- the quotient of the polynomial of degree m by x + a
pub quotient : ℕ → ℕ → (ℕ → ℕ) → ℕ → ℕ
quotient a zero v i = 0
quotient a (suc m) v i = bit_xor (v (suc i)) (field_product a (quotient a m (shifted v) i))

pub evaluated_front : (v : ℕ → ℕ) (m x : ℕ) → v 0 < 256 → evaluated v (suc m) x ≡ bit_xor (v 0) (field_product x (evaluated (shifted v) m x))
evaluated_front v m x byte =
    sum_front (λ i. field_product (v i) (power x i)) m
    ∙ ap₂ bit_xor (ap (field_product (v 0)) (power-zero x) ∙ product-one (v 0) byte)
    (sum_same _ _ m (λ i l. ap (field_product (v (suc i))) (power-suc x i) ∙ sym (product_assoc (v (suc i)) x (power x i)) ∙ ap (λ z. field_product z (power x i)) (product_comm (v (suc i)) x) ∙ product_assoc x (v (suc i)) (power x i))
    ∙ sym (product_of_sums x (λ i. field_product (v (suc i)) (power x i)) m))

-- beyond the degree a quotient has no coefficient
quotient_past : (a m : ℕ) (v : ℕ → ℕ) → ((i : ℕ) → m < i → v i ≡ 0) → (i : ℕ) → m ≤ i → quotient a m v i ≡ 0
unfolding quotient
quotient_past a zero v past i l = refl
quotient_past a (suc m) v past i l =
    ap₂ bit_xor (past (suc i) (omega arith)) (ap (field_product a) (quotient_past a m (shifted v) (λ k h. past (suc k) (omega arith)) i (omega arith)) ∙ product-zero a)

-- the difference of the values at x and a is the distance of x and a times the quotient
pub divided : (a m : ℕ) (v : ℕ → ℕ) → ((i : ℕ) → v i < 256) → ((i : ℕ) → m < i → v i ≡ 0) → (x : ℕ)
    → bit_xor (evaluated v (suc m) x) (evaluated v (suc m) a) ≡ field_product (bit_xor x a) (evaluated (quotient a m v) m x)
unfolding quotient sum_below
divided a zero v bytes past x =
    ap₂ bit_xor (evaluated_front v 0 x (bytes 0) ∙ ap (bit_xor (v 0)) (product-zero x) ∙ xor_zero_r (v 0)) (evaluated_front v 0 a (bytes 0) ∙ ap (bit_xor (v 0)) (product-zero a) ∙ xor_zero_r (v 0))
    ∙ xor_self (v 0) ∙ sym (product-zero (bit_xor x a))
divided a (suc m) v bytes past x =
    let w : ℕ → ℕ = shifted v in
    let ex : ℕ = evaluated w (suc m) x in
    let ea : ℕ = evaluated w (suc m) a in
    let q : ℕ = evaluated (quotient a m w) m x in
    let past_w : (i : ℕ) → m < i → w i ≡ 0 = λ i l. past (suc i) (omega arith) in
    let rest : bit_xor ex ea ≡ field_product (bit_xor x a) q = divided a m w (λ i. bytes (suc i)) past_w x in
    let split : bit_xor (field_product x ex) (field_product a ea) ≡ field_product (bit_xor x a) (bit_xor ex (field_product a q)) =
    regrouped x a ex ea q rest in
    let longer : evaluated (quotient a m w) (suc m) x ≡ q =
    ap (bit_xor q) (ap (λ z. field_product z (power x m)) (quotient_past a m w past_w m (omega arith)) ∙ product_zero_first (power x m)) ∙ xor_zero_r q in
    ap₂ bit_xor (evaluated_front v (suc m) x (bytes 0)) (evaluated_front v (suc m) a (bytes 0))
    ∙ xor_columns (v 0) (field_product x ex) (v 0) (field_product a ea)
    ∙ ap (λ z. bit_xor z (bit_xor (field_product x ex) (field_product a ea))) (xor_self (v 0))
    ∙ split
    ∙ ap (field_product (bit_xor x a)) (ap (bit_xor ex) (ap (field_product a) (sym longer))
    ∙ ap (bit_xor ex) (product_of_sums a (λ i. field_product (quotient a m w i) (power x i)) (suc m) ∙ sum_same _ _ (suc m) (λ i l. sym (product_assoc a (quotient a m w i) (power x i))))
    ∙ sym (sum_of_sums (λ i. field_product (w i) (power x i)) (λ i. field_product (field_product a (quotient a m w i)) (power x i)) (suc m))
    ∙ sum_same _ _ (suc m) (λ i l. sym (product_of_sum_first (w i) (field_product a (quotient a m w i)) (power x i))))
  where
    regrouped : (x a ex ea q : ℕ) → bit_xor ex ea ≡ field_product (bit_xor x a) q → bit_xor (field_product x ex) (field_product a ea) ≡ field_product (bit_xor x a) (bit_xor ex (field_product a q))
    regrouped x a ex ea q rest =
        let last : field_product (bit_xor x a) (field_product a q) ≡ bit_xor (field_product a ex) (field_product a ea) =
        sym (product_assoc (bit_xor x a) a q) ∙ ap (λ z. field_product z q) (product_comm (bit_xor x a) a) ∙ product_assoc a (bit_xor x a) q ∙ ap (field_product a) (sym rest) ∙ product_of_sum a ex ea in
        sym (product_of_sum (bit_xor x a) ex (field_product a q) ∙ ap₂ bit_xor (product_of_sum_first x a ex) last ∙ without_middle (field_product x ex) (field_product a ex) (field_product a ea))

quotient_byte : (a m : ℕ) (v : ℕ → ℕ) → ((i : ℕ) → v i < 256) → (i : ℕ) → quotient a m v i < 256
unfolding quotient
quotient_byte a zero v bytes i = omega arith
quotient_byte a (suc m) v bytes i = xor_lt 8 (v (suc i)) (field_product a (quotient a m (shifted v) i)) (bytes (suc i)) (product-lt a (quotient a m (shifted v) i))

-- the highest coefficient stays
quotient_highest : (a m : ℕ) (v : ℕ → ℕ) → ((i : ℕ) → suc m < i → v i ≡ 0) → quotient a (suc m) v m ≡ v (suc m)
unfolding quotient
quotient_highest a m v past = ap (bit_xor (v (suc m))) (ap (field_product a) (quotient_past a m (shifted v) (λ i l. past (suc i) (omega arith)) m (omega arith)) ∙ product-zero a) ∙ xor_zero_r (v (suc m))

abbrev pub is_root : (ℕ → ℕ) → ℕ → (ℕ → ℕ) → ℕ → Bool
is_root v d x k = eqb (evaluated v (suc d) (x k)) 0

-- of n distinct points at most d are roots of a polynomial of degree d
abbrev pub HasFewRoots : ℕ → Type 0
HasFewRoots n =
    (d : ℕ) (v x : ℕ → ℕ) → ((i : ℕ) → v i < 256) → ((i : ℕ) → d < i → v i ≡ 0) → v d ≢ 0 → AreApart x n → ((k : ℕ) → x k < 256) → count_below (is_root v d x) n ≤ d

few_roots_more : (n : ℕ) → HasFewRoots n → HasFewRoots (suc n)
unfolding count_below
few_roots_more n fewer d v x bytes past highest distinct points = step (eqb (evaluated v (suc d) (x n)) 0) refl d past highest refl
  where
    step : (b : Bool) → eqb (evaluated v (suc d) (x n)) 0 ≡ b → (e : ℕ) → ((i : ℕ) → e < i → v i ≡ 0) → v e ≢ 0 → e ≡ d → count_below (is_root v d x) n + cond b 1 0 ≤ d
    step false last e past highest same = let rest : count_below (is_root v d x) n ≤ d = fewer d v x bytes (λ i l. past i (omega arith)) (subst (λ k. v k ≢ 0) same highest) (λ i k p q. distinct i k p (omega arith)) points in omega arith
    step true last zero past highest same =
        let value : evaluated v (suc d) (x n) ≡ 0 = eqb-true _ _ last in
        let constant : evaluated v 1 (x n) ≡ v 0 =
        evaluated_front v 0 (x n) (bytes 0) ∙ ap (λ z. bit_xor (v 0) (field_product (x n) z)) (sum-zero (λ i. field_product (shifted v i) (power (x n) i))) ∙ ap (bit_xor (v 0)) (product-zero (x n)) ∙ xor_zero_r (v 0) in
        absurd (highest (sym constant ∙ ap (λ k. evaluated v (suc k) (x n)) same ∙ value))
    step true last (suc e) past highest same =
        let a : ℕ = x n in
        let value : evaluated v (suc (suc e)) a ≡ 0 = ap (λ k. evaluated v (suc k) a) same ∙ eqb-true _ _ last in
        let q : ℕ → ℕ = quotient a (suc e) v in
        let fewer_rest : count_below (is_root q e x) n ≤ e =
        fewer e q x (quotient_byte a (suc e) v bytes) (λ i l. quotient_past a (suc e) v past i (omega arith)) (λ z. highest (sym (quotient_highest a e v past) ∙ z)) (λ i k p r. distinct i k p (omega arith)) points in
        let kept : (k : ℕ) → k < n → is_root v d x k ≡ true → is_root q e x k ≡ true =
        λ k l h.
        let here : evaluated v (suc (suc e)) (x k) ≡ 0 = ap (λ m. evaluated v (suc m) (x k)) same ∙ eqb-true _ _ h in
        let factors : field_product (evaluated q (suc e) (x k)) (bit_xor (x k) a) ≡ 0 =
        product_comm (evaluated q (suc e) (x k)) (bit_xor (x k) a) ∙ sym (divided a (suc e) v bytes past (x k)) ∙ ap₂ bit_xor here value in
        eq-eqb _ _ (cancel (evaluated q (suc e) (x k)) (bit_xor (x k) a) (sum-lt _ (suc e) (λ i b. product-lt (q i) (power (x k) i))) (xor_lt 8 (x k) a (points k) (points n)) (apart (x k) a (distinct k n l (omega arith))) factors) in
        let all : count_below (is_root v d x) n ≤ count_below (is_root q e x) n = count_weaker (is_root v d x) (is_root q e x) n kept in
        omega arith

pub few_roots : (n : ℕ) → HasFewRoots n
unfolding count_below
few_roots zero = λ d v x bytes past highest distinct points. omega arith
few_roots (suc n) = few_roots_more n (few_roots n)
