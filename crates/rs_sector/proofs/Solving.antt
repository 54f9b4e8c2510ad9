-- The values from their sums: the first point is eliminated, the others are solved, and the rest of the first sum is the first value.
use Rattle.std.proofs.Common.{◌≡◌, ℕ, suc, ◌+◌, ◌-◌, ◌<◌, ◌≤◌, List, ◌++◌, length, set, take, drop, bit_xor, refl, sym, ap, ap₂, ◌∙◌, inl, inr, arith}
use Rattle.std.proofs.lemmas.Bool.{cases_lt}
use Rattle.std.proofs.lemmas.Bool.Decides.{eqb_tells}
use Rattle.std.proofs.lemmas.List.{length-set, length-take, length-take-le, length-drop, length-append, get_or-take, get_or-drop, get_or_append_left, get_or-append_right, get_or-set_same, get_or-set_other}
use borrow.Rule.Slice.PartMut.{mid_of, post_of, put_mid}
use lib.Bits.{xor_self, xor_zero_r}
use Rattle.rs_sector.specs.Field.{field_product, power, sum_below}
use Rattle.rs_sector.specs.Locating.{power_sum, AreByteValues, EliminatesFirst, DividesOut, Solves}
use Rattle.rs_sector.proofs.FieldLaws.{product-one, product-zero, product_zero_first, product_assoc, product-lt, xor_twice, xor_columns}
use Rattle.rs_sector.proofs.Powers.{power-zero}
use Rattle.rs_sector.proofs.Sums.{sum-suc, sum-zero, sum_same, sum_front}
use Rattle.rs_sector.proofs.Vanishing.{eliminated}
use Rattle.rs_sector.proofs.Codewords.{at}

-- ---- the loop that eliminates the first point

-- the sums below j are eliminated, and before is the one before j as it was
pub record EliminatedBelow (point : ℕ) (old new : List ℕ) (before j : ℕ) : Type 0 where
  pub long : length new ≡ length old
  pub first : at new 0 ≡ at old 0
  pub done : (i : ℕ) → i + 1 < j → at new (i + 1) ≡ bit_xor (at old (i + 1)) (field_product point (at old i))
  pub left : (i : ℕ) → j ≤ i → at new i ≡ at old i
  pub before_is : before ≡ at old (j - 1)
  pub some : 1 ≤ j

-- ---- the loop that divides

-- for whatever values: those below k are there, the others are still times their distances, and the first sum lacks those below k
pub record Divided (points : List ℕ) (values : ℕ → ℕ) (new : List ℕ) (n k : ℕ) : Type 0 where
  pub done : (i : ℕ) → 0 < i → i < k → at new i ≡ values i
  pub left : (i : ℕ) → 0 < i → k ≤ i → i < n → at new i ≡ field_product (values i) (bit_xor (at points i) (at points 0))
  pub first : bit_xor (at new 0) (sum_below (λ i. values (suc i)) (k - 1)) ≡ sum_below values n

pub record DividedBelow (points old new : List ℕ) (k : ℕ) : Type 0 where
  pub long : length new ≡ length old
  pub some : 1 ≤ k
  pub divided : (values : ℕ → ℕ) → AreByteValues values → ((i : ℕ) → 0 < i → i < length old → at old i ≡ field_product (values i) (bit_xor (at points i) (at points 0)))
      → at old 0 ≡ sum_below values (length old) → Divided points values new (length old) k

pub divided_none : (points old : List ℕ) → DividedBelow points old old 1
divided_none points old = record {
  long = refl;
  some = omega arith;
  divided = λ values bytes behind sum. record {
    done = λ i g l. absurd (omega arith);
    left = λ i g h l. behind i g l;
    first = ap (bit_xor (at old 0)) (sum-zero (λ i. values (suc i))) ∙ xor_zero_r (at old 0) ∙ sum;
  };
}

pub divided_more : (points old new : List ℕ) (k inverse value : ℕ) → k < length old → DividedBelow points old new k → field_product (bit_xor (at points k) (at points 0)) inverse ≡ 1 → value ≡ field_product (at new k) inverse
    → DividedBelow points old (set (set new k value) 0 (bit_xor (at (set new k value) 0) value)) (k + 1)
divided_more points old new k inverse value l before unit is =
    let once : List ℕ = set new k value in
    let twice : List ℕ = set once 0 (bit_xor (at once 0) value) in
    let positive : 1 ≤ k = before.some in
    let same_head : at once 0 ≡ at new 0 = get_or-set_other new k 0 value 0 (λ e. absurd (omega arith)) in
    let head : at twice 0 ≡ bit_xor (at new 0) value = get_or-set_same once 0 (bit_xor (at once 0) value) 0 (omega (arith, length-set new k value, before.long)) ∙ ap (λ x. bit_xor x value) same_head in
    let behind : (i : ℕ) → 0 < i → at twice i ≡ at once i = λ i g. get_or-set_other once 0 i (bit_xor (at once 0) value) 0 (λ e. absurd (omega arith)) in
    record {
      long = length-set once 0 (bit_xor (at once 0) value) ∙ length-set new k value ∙ before.long;
      some = omega arith;
      divided = λ values bytes hyp sum.
          let d = before.divided values bytes hyp sum in
          let found : value ≡ values k =
          is ∙ ap (λ x. field_product x inverse) (d.left k (omega arith) (omega arith) l) ∙ product_assoc (values k) (bit_xor (at points k) (at points 0)) inverse ∙ ap (field_product (values k)) unit ∙ product-one (values k) (bytes k) in
          record {
            done = λ i g h. elim (eqb_tells i k) [
              | inl same ↦ ap (at twice) same.1 ∙ behind k (omega arith) ∙ get_or-set_same new k value 0 (omega (arith, before.long)) ∙ found ∙ ap values (sym same.1)
              | inr other ↦ behind i g ∙ get_or-set_other new k i value 0 other.1 ∙ d.done i g (omega (arith, other.1))
            ];
            left = λ i g h m. behind i g ∙ get_or-set_other new k i value 0 (λ e. absurd (omega (arith, e))) ∙ d.left i g (omega arith) m;
            first =
                let last : values (suc (k - 1)) ≡ value = ap values (let e : suc (k - 1) ≡ k = omega arith in e) ∙ sym found in
                ap₂ bit_xor head (ap (sum_below (λ i. values (suc i))) (let e : k + 1 - 1 ≡ suc (k - 1) = omega arith in e) ∙ sum-suc (λ i. values (suc i)) (k - 1) ∙ ap (bit_xor (sum_below (λ i. values (suc i)) (k - 1))) last)
                ∙ both_twice (at new 0) (sum_below (λ i. values (suc i)) (k - 1)) value ∙ d.first;
          };
    }
  where
    both_twice : (a b v : ℕ) → bit_xor (bit_xor a v) (bit_xor b v) ≡ bit_xor a b
    both_twice a b v = xor_columns a v b v ∙ ap (bit_xor (bit_xor a b)) (xor_self v) ∙ xor_zero_r (bit_xor a b)

pub divided_all : (points old new : List ℕ) (k : ℕ) → k ≡ length old → DividedBelow points old new k → DividesOut points old new
divided_all points old new k e below values bytes behind sum i l =
    let d = below.divided values bytes behind sum in
    elim (cases_lt 0 i) [
      | inl g ↦ d.done i g (omega arith)
      | inr g ↦
          let zero_place : i ≡ 0 = omega arith in
          let split : sum_below values (length old) ≡ bit_xor (values 0) (sum_below (λ i. values (suc i)) (k - 1)) =
          ap (sum_below values) (let f : length old ≡ suc (k - 1) = omega arith in f) ∙ sum_front values (k - 1) in
          ap (at new) zero_place ∙ sym (xor_twice (at new 0) (sum_below (λ i. values (suc i)) (k - 1)))
          ∙ ap (λ x. bit_xor x (sum_below (λ i. values (suc i)) (k - 1))) (d.first ∙ split) ∙ xor_twice (values 0) (sum_below (λ i. values (suc i)) (k - 1)) ∙ ap values (sym zero_place)
    ]

-- ---- the recursion

pub solve_few : (points sums : List ℕ) → length points ≡ length sums → length points ≤ 1 → Solves points sums sums
solve_few points sums long few values bytes are k l =
    let zero_place : k ≡ 0 = omega arith in
    let one : length sums ≡ 1 = omega arith in
    ap (at sums) zero_place ∙ are 0 (omega arith)
    ∙ ap (λ n. power_sum values (at points) n 0) one
    ∙ sum-suc (λ i. field_product (values i) (power (at points i) 0)) 0
    ∙ ap₂ bit_xor (sum-zero (λ i. field_product (values i) (power (at points i) 0))) (ap (field_product (values 0)) (power-zero (at points 0)) ∙ product-one (values 0) (bytes 0))
    ∙ ap values (sym zero_place)

pub solve_more : (points old first rest new : List ℕ) → length points ≡ length old → 1 < length points → EliminatesFirst (at points 0) old first → length rest ≡ length (mid_of 1 (length first - 1) first)
    → Solves (mid_of 1 (length points - 1) points) (mid_of 1 (length first - 1) first) rest → DividesOut points (put_mid 1 (length first - 1) first rest) new → Solves points old new
solve_more points old first rest new long more eliminates long_rest solves divides values bytes are =
    let n : ℕ = length old - 1 in
    let x : ℕ → ℕ = at points in
    let inner : List ℕ = mid_of 1 (length first - 1) first in
    let inner_points : List ℕ = mid_of 1 (length points - 1) points in
    let mid : List ℕ = put_mid 1 (length first - 1) first rest in
    let v : ℕ → ℕ = λ k. field_product (values (suc k)) (bit_xor (x (suc k)) (x 0)) in
    let long_first : length first ≡ length old = eliminates.long in
    let long_inner : length inner ≡ n = length-take (length first - 1) (drop 1 first) ∙ omega (arith, length-drop 1 first) in
    let at_inner : (j : ℕ) → j < n → at inner j ≡ at first (suc j) = λ j l. get_or-take (length first - 1) (drop 1 first) j 0 (omega arith) ∙ get_or-drop 1 first j 0 ∙ ap (at first) (let e : 1 + j ≡ suc j = omega arith in e) in
    let at_points : (j : ℕ) → j < n → at inner_points j ≡ x (suc j) = λ j l. get_or-take (length points - 1) (drop 1 points) j 0 (omega arith) ∙ get_or-drop 1 points j 0 ∙ ap x (let e : 1 + j ≡ suc j = omega arith in e) in
    let sums : (j : ℕ) → j < length inner → at inner j ≡ power_sum v (at inner_points) (length inner) j =
    λ j l.
    let whole : length old ≡ suc n = omega arith in
    at_inner j (omega arith) ∙ ap (at first) (let e : suc j ≡ j + 1 = omega arith in e) ∙ eliminates.others j (omega arith)
    ∙ ap₂ (λ a b. bit_xor a (field_product (x 0) b)) (are (j + 1) (omega arith) ∙ ap (power_sum values x (length old)) (let e : j + 1 ≡ suc j = omega arith in e)) (are j (omega arith))
    ∙ sym (eliminated values x (x 0) (length old) j)
    ∙ ap (λ m. power_sum (λ k. field_product (values k) (bit_xor (x k) (x 0))) x m j) whole
    ∙ sum_front (λ k. field_product (field_product (values k) (bit_xor (x k) (x 0))) (power (x k) j)) n
    ∙ ap (λ a. bit_xor a (sum_below (λ k. field_product (v k) (power (x (suc k)) j)) n)) (ap (λ d. field_product (field_product (values 0) d) (power (x 0) j)) (xor_self (x 0)) ∙ ap (λ d. field_product d (power (x 0) j)) (product-zero (values 0)) ∙ product_zero_first (power (x 0) j))
    ∙ sum_same _ _ n (λ k h. ap (λ p. field_product (v k) (power p j)) (sym (at_points k h)))
    ∙ ap (λ m. power_sum v (at inner_points) m j) (sym long_inner) in
    let found : (k : ℕ) → k < n → at rest k ≡ v k = λ k l. solves v (λ k. product-lt (values (suc k)) (bit_xor (x (suc k)) (x 0))) sums k (omega arith) in
    let one : length (take 1 first) ≡ 1 = length-take-le 1 first (omega arith) in
    let mid_head : at mid 0 ≡ at first 0 = get_or_append_left (take 1 first) (rest ++ post_of 1 (length first - 1) first) 0 0 (omega arith) ∙ get_or-take 1 first 0 0 (omega arith) in
    let mid_tail : (k : ℕ) → 0 < k → k < length old → at mid k ≡ at rest (k - 1) =
    λ k g l. get_or-append_right (take 1 first) (rest ++ post_of 1 (length first - 1) first) 1 k 0 one (omega arith) ∙ get_or_append_left rest (post_of 1 (length first - 1) first) 0 (k - 1) (omega arith) in
    let past : length (post_of 1 (length first - 1) first) ≡ 0 = length-drop (length first - 1) (drop 1 first) ∙ omega (arith, length-drop 1 first) in
    let long_mid : length mid ≡ length old =
    omega (arith, length-append (take 1 first) (rest ++ post_of 1 (length first - 1) first), length-append rest (post_of 1 (length first - 1) first), one, long_rest, long_inner, past) in
    let behind : (k : ℕ) → 0 < k → k < length mid → at mid k ≡ field_product (values k) (bit_xor (x k) (x 0)) =
    λ k g l.
    let e : suc (k - 1) ≡ k = omega arith in
    mid_tail k g (omega arith) ∙ found (k - 1) (omega arith) ∙ ap (λ i. field_product (values i) (bit_xor (x i) (x 0))) e in
    let sum : at mid 0 ≡ sum_below values (length mid) =
    mid_head ∙ eliminates.first ∙ are 0 (omega arith) ∙ sum_same _ _ (length old) (λ k l. ap (field_product (values k)) (power-zero (x k)) ∙ product-one (values k) (bytes k)) ∙ ap (sum_below values) (sym long_mid) in
    λ k l. divides values bytes behind sum k (omega arith)
