-- Codewords by power sums: the points of the places are apart, and two codewords differ in at least 17 places.
use Rattle.std.proofs.Common.{◌≡◌, ◌≢◌, ℕ, zero, suc, ◌+◌, ◌-◌, ◌<◌, ◌≤◌, Bool, true, false, cond, not, ◌&&◌, T, eqb, List, ◌∷◌, ◌++◌, map, length, get_or, take, replicate, IsTrue, ◌↔◌, bit_xor, refl, sym, ap, ap₂, ◌∙◌, subst, inl, inr, arith, eq-eqb}
use Rattle.std.specs.List.{range_with_len}
use Rattle.std.proofs.lemmas.Bool.{cases_lt, cases_order}
use Rattle.std.proofs.lemmas.Bool.Decides.{eqb_tells}
use Rattle.std.proofs.lemmas.List.{get_or-take, ext_get_or, get_or_past, get_or_append_left, get_or-append_right, length-append, take_at, get_or-replicate, drop_all, drop-drop, append-nil}
use Rattle.std.proofs.lemmas.List.FromFn.{get_or-map-range_with_len}
use Rattle.std.proofs.lemmas.Nat.{xor_lt}
use lib.Bits.{xor_self}
use lib.Ieee.Fits.{and_l, and_r}
use borrow.Rule.Slice.PartMut.{put_mid}
use lib.Pointwise.{pointwise, bytes_decides}
use Rattle.rs_sector.specs.Field.{field_product, power, sum_below, polynomial_product, polynomial_remainder}
use Rattle.rs_sector.specs.Code.{value_at, point, AreBytes, IsCodeword, Encodes, syndromes_of, differs_at, differing}
use Rattle.rs_sector.specs.Lanes.{entry, combination, combination_of, HoldPowers, HoldChecks}
use Rattle.rs_sector.proofs.FieldLaws.{product-lt, product_comm, product_assoc, product_one_first, product_of_sum_first, same_from_xor}
use Rattle.rs_sector.proofs.Powers.{power-lt, power-zero, power-suc, power-add, power_of_power}
use Rattle.rs_sector.proofs.Sums.{sum_same, sum_of_sums, product_of_sums, product_of_sums_first, sum_swap, sum_split, sum_pick, sum-lt, count_weaker, count_late}
use Rattle.rs_sector.specs.Locating.{power_sum, AreApart}
use Rattle.rs_sector.proofs.Vanishing.{cancel, is_value, vanishing}

-- ---- the points

pub power_of_two_nonzero : (n : ℕ) → power 2 n ≢ 0
power_of_two_nonzero zero e = let f : ◌≡◌ {A = ℕ} 1 0 = sym (power-zero 2) ∙ e in absurd (omega arith)
power_of_two_nonzero (suc n) e =
    power_of_two_nonzero n (cancel (power 2 n) 2 (power-lt 2 n) (omega arith) (λ (f : ◌≡◌ {A = ℕ} 2 0). absurd (omega arith)) (product_comm (power 2 n) 2 ∙ sym (power-suc 2 n) ∙ e))

-- none of n powers, the first of which is p, is 1
abbrev pub none_is_one : ℕ → ℕ → Bool
none_is_one zero p = true
none_is_one (suc n) p = not (eqb p 1) && none_is_one n (field_product 2 p)

not_one : (n from p : ℕ) → p ≡ power 2 from → T (none_is_one n p) → (i : ℕ) → i < n → power 2 (from + i) ≢ 1
not_one zero from p e h i l f = absurd (omega arith)
not_one (suc n) from p e h zero l f =
    let one : p ≡ 1 = e ∙ ap (power 2) (let g : from ≡ from + 0 = omega arith in g) ∙ f in
    let t : T (not (eqb p 1)) = and_l _ _ h in
    subst (λ b. T (not b)) (let s : eqb p 1 ≡ true = ap (λ z. eqb z 1) one in s) t
not_one (suc n) from p e h (suc i) l f =
    not_one n (suc from) (field_product 2 p) (ap (field_product 2) e ∙ sym (power-suc 2 from)) (and_r (not (eqb p 1)) _ h) i (omega arith)
    (ap (power 2) (let g : suc from + i ≡ from + suc i = omega arith in g) ∙ f)

powers_pass_one : T (none_is_one 147 2)
unfolding field_product polynomial_product polynomial_remainder
powers_pass_one = tt

two_is : 2 ≡ power 2 1
unfolding power field_product polynomial_product polynomial_remainder
two_is = refl

pub points_apart : AreApart point 148
points_apart i k before within e =
    let d = k - i - 1 in
    let first : power 2 (147 - i) ≡ field_product (power 2 (1 + d)) (power 2 (147 - k)) =
    ap (power 2) (let g : 147 - i ≡ 1 + d + (147 - k) = omega arith in g) ∙ power-add 2 (1 + d) (147 - k) in
    let gone : field_product (bit_xor (power 2 (1 + d)) 1) (power 2 (147 - k)) ≡ 0 =
    product_of_sum_first (power 2 (1 + d)) 1 (power 2 (147 - k)) ∙ ap₂ bit_xor (sym first ∙ e) (product_one_first (power 2 (147 - k)) (power-lt 2 (147 - k))) ∙ xor_self (power 2 (147 - k)) in
    not_one 147 1 2 two_is powers_pass_one d (omega arith)
    (same_from_xor (power 2 (1 + d)) 1 (cancel (bit_xor (power 2 (1 + d)) 1) (power 2 (147 - k)) (xor_lt 8 (power 2 (1 + d)) 1 (power-lt 2 (1 + d)) (omega arith)) (power-lt 2 (147 - k)) (power_of_two_nonzero (147 - k)) gone))

pub places_apart : (i k : ℕ) → i < 148 → k < 148 → i ≢ k → point i ≢ point k
places_apart i k li lk ne =
    elim (cases_order i k) [
      | inl same ↦ absurd (ne same)
      | inr order ↦ elim order [ inl less ↦ points_apart i k less lk | inr more ↦ λ e. points_apart k i more li (sym e) ]
    ]

-- ---- a word's polynomial as a power sum

abbrev pub at : List ℕ → ℕ → ℕ
at word k = get_or word k 0

pub value_is_sum : (word : List ℕ) → length word ≡ 148 → (j : ℕ) → value_at (power 2 j) word ≡ power_sum (at word) point 148 j
unfolding value_at
value_is_sum word long j =
    ap (λ n. sum_below (λ k. field_product (at word k) (power (power 2 j) (n - 1 - k))) n) long
    ∙ sum_same _ _ 148 (λ k l. ap (field_product (at word k)) (power_of_power 2 j (147 - k)))

-- the sums of the places where two words of 148 bytes differ
pub difference_sum : (a b : List ℕ) → (j : ℕ) → power_sum (λ k. bit_xor (at a k) (at b k)) point 148 j ≡ bit_xor (power_sum (at a) point 148 j) (power_sum (at b) point 148 j)
difference_sum a b j =
    sum_same _ _ 148 (λ k l. product_of_sum_first (at a k) (at b k) (power (point k) j))
    ∙ sum_of_sums (λ k. field_product (at a k) (power (point k) j)) (λ k. field_product (at b k) (power (point k) j)) 148

-- a value of the difference is a place where they differ
pub differs_from_value : (a b : List ℕ) (k : ℕ) → is_value (λ k. bit_xor (at a k) (at b k)) k ≡ true → differs_at a b k ≡ true
differs_from_value a b k h =
    elim (eqb_tells (at a k) (at b k)) [
      | inl same ↦ let e : eqb (bit_xor (at a k) (at b k)) 0 ≡ true = ap (λ x. eqb (bit_xor x (at b k)) 0) same.1 ∙ ap (λ x. eqb x 0) (xor_self (at b k)) in cc
      | inr other ↦ ap not other.0
    ]

pub minimum_distance : (a b : List ℕ) → IsCodeword a → IsCodeword b → differing a b ≤ 16 → a ≡ b
minimum_distance a b ca cb few =
    let u : ℕ → ℕ = λ k. bit_xor (at a k) (at b k) in
    let zeros : (j : ℕ) → j < 16 → power_sum u point 148 j ≡ 0 =
    λ j l. difference_sum a b j ∙ ap₂ bit_xor (sym (value_is_sum a ca.long j) ∙ ca.zeros j l) (sym (value_is_sum b cb.long j) ∙ cb.zeros j l) in
    ext_get_or 0 a b (ca.long ∙ sym cb.long) (λ k l. same_from_xor (at a k) (at b k)
    (vanishing 148 16 u point points_apart (λ k. power-lt 2 (147 - k)) (λ k. xor_lt 8 (at a k) (at b k) (ca.bytes k) (cb.bytes k)) (omega (arith, count_weaker (is_value u) (differs_at a b) 148 (λ k l. differs_from_value a b k))) zeros k (omega (arith, ca.long))))

-- what two words with the same data differ in stands behind the data
data_are_same : (a b : List ℕ) → take 132 a ≡ take 132 b → (k : ℕ) → k < 132 → differs_at a b k ≡ false
data_are_same a b e k l =
    let same : at a k ≡ at b k = sym (get_or-take 132 a k 0 l) ∙ ap (λ s. at s k) e ∙ get_or-take 132 b k 0 l in
    ap not (eq-eqb (at a k) (at b k) same)

pub one_encoding : (a b : List ℕ) → IsCodeword a → IsCodeword b → take 132 a ≡ take 132 b → a ≡ b
one_encoding a b ca cb e = minimum_distance a b ca cb (count_late (differs_at a b) 132 16 (data_are_same a b e))

-- ---- the syndromes

pub map_range_same : (f g : ℕ → ℕ) (from n : ℕ) → ((j : ℕ) → j < from + n → f j ≡ g j) → map f (range_with_len from n) ≡ map g (range_with_len from n)
map_range_same f g from zero e = refl
map_range_same f g from (suc n) e = ap₂ (λ z zs. z ∷ zs) (e from (omega arith)) (map_range_same f g (from + 1) n (λ j l. e j (omega arith)))

pub sums_are_syndromes : (word : List ℕ) (rows : List (List ℕ)) → length word ≡ 148 → HoldPowers rows → combination_of word rows ≡ syndromes_of word
unfolding combination_of combination syndromes_of
sums_are_syndromes word rows long powers =
    map_range_same (λ j. sum_below (λ k. field_product (at word k) (entry rows k j)) (length word)) (λ j. value_at (power 2 j) word) 0 16 (λ j l.
    ap (sum_below (λ k. field_product (at word k) (entry rows k j))) long
    ∙ sum_same _ _ 148 (λ k b. ap (field_product (at word k)) (powers k j b (omega arith))) ∙ sym (value_is_sum word long j))

-- ---- the encoder

pub syndrome_at : (bytes : List ℕ) (rows : List (List ℕ)) (j : ℕ) → j < 16 → get_or (combination_of bytes rows) j 0 ≡ combination bytes rows j
unfolding combination_of
syndrome_at bytes rows j l = get_or-map-range_with_len (combination bytes rows) 0 16 j j 0 l (omega arith)

pub combination-lt : (bytes : List ℕ) (rows : List (List ℕ)) (j : ℕ) → combination bytes rows j < 256
unfolding combination
combination-lt bytes rows j = sum-lt _ (length bytes) (λ k l. product-lt (at bytes k) (entry rows k j))

length_combination : (bytes : List ℕ) (rows : List (List ℕ)) → length (combination_of bytes rows) ≡ 16
unfolding combination_of
length_combination bytes rows = refl

pub byte_of_combination : (bytes : List ℕ) (rows : List (List ℕ)) → AreBytes (combination_of bytes rows)
byte_of_combination bytes rows j =
    elim (cases_lt j 16) [
      | inl l ↦ subst (λ x. x < 256) (sym (syndrome_at bytes rows j l)) (combination-lt bytes rows j)
      | inr g ↦ subst (λ x. x < 256) (sym (get_or_past (combination_of bytes rows) j 0 (omega (arith, length_combination bytes rows)))) (omega arith)
    ]

-- the check bytes have the sum s j of the data
check_sum : (sums : List ℕ) (rows : List (List ℕ)) → length sums ≡ 16 → AreBytes sums → HoldChecks rows → (j : ℕ) → j < 16
    → sum_below (λ k. field_product (combination sums rows k) (power (point (132 + k)) j)) 16 ≡ at sums j
unfolding combination
check_sum sums rows long bytes units j l =
    let p : ℕ → ℕ = λ k. power (point (132 + k)) j in
    sum_same _ (λ k. sum_below (λ i. field_product (at sums i) (field_product (entry rows i k) (p k))) 16) 16 (λ k b.
    ap (λ n. field_product (sum_below (λ i. field_product (at sums i) (entry rows i k)) n) (p k)) long
    ∙ product_of_sums_first (p k) (λ i. field_product (at sums i) (entry rows i k)) 16
    ∙ sum_same _ _ 16 (λ i h. product_assoc (at sums i) (entry rows i k) (p k)))
    ∙ sum_swap (λ k i. field_product (at sums i) (field_product (entry rows i k) (p k))) 16 16
    ∙ sum_same _ (λ i. field_product (at sums i) (cond (eqb i j) 1 0)) 16 (λ i h.
    sym (product_of_sums (at sums i) (λ k. field_product (entry rows i k) (p k)) 16) ∙ ap (field_product (at sums i)) (units i j h l))
    ∙ sum_pick (at sums) j 16 (bytes j) l

data_sum : (plain : List ℕ) (powers : List (List ℕ)) → length plain ≡ 132 → HoldPowers powers → (j : ℕ) → j < 16 → combination plain powers j ≡ sum_below (λ k. field_product (at plain k) (power (point k) j)) 132
unfolding combination
data_sum plain powers long points j l =
    ap (sum_below (λ k. field_product (at plain k) (entry powers k j))) long ∙ sum_same _ _ 132 (λ k b. ap (field_product (at plain k)) (points k j (omega arith) l))

pub encoded : (plain sums checks : List ℕ) (powers rows : List (List ℕ)) → length plain ≡ 132 → AreBytes plain → HoldPowers powers → HoldChecks rows
    → sums ≡ combination_of plain powers → checks ≡ combination_of sums rows → Encodes plain (plain ++ checks)
encoded plain sums checks powers rows long bytes points units es ec =
    let long_sums : length sums ≡ 16 = ap length es ∙ length_combination plain powers in
    let long_checks : length checks ≡ 16 = ap length ec ∙ length_combination sums rows in
    let check_bytes : AreBytes checks = λ k. subst (λ l. get_or l k 0 < 256) (sym ec) (byte_of_combination sums rows k) in
    let sum_bytes : AreBytes sums = λ k. subst (λ l. get_or l k 0 < 256) (sym es) (byte_of_combination plain powers k) in
    let long_word : length (plain ++ checks) ≡ 148 = length-append plain checks ∙ ap₂ (λ a b. a + b) long long_checks in
    record {
      codeword = record {
        long = long_word;
        bytes = λ k. elim (cases_lt k 132) [
          | inl l ↦ subst (λ x. x < 256) (sym (get_or_append_left plain checks 0 k (omega (arith, long)))) (bytes k)
          | inr g ↦ subst (λ x. x < 256) (sym (get_or-append_right plain checks 132 k 0 long g)) (check_bytes (k - 132))
        ];
        zeros = λ j l.
            value_is_sum (plain ++ checks) long_word j
            ∙ sum_split (λ k. field_product (at (plain ++ checks) k) (power (point k) j)) 132 16
            ∙ ap₂ bit_xor
            (sum_same _ _ 132 (λ k b. ap (λ x. field_product x (power (point k) j)) (get_or_append_left plain checks 0 k (omega (arith, long))))
            ∙ sym (data_sum plain powers long points j l) ∙ sym (syndrome_at plain powers j l) ∙ sym (ap (λ s. at s j) es))
            (sum_same _ _ 16 (λ k b. ap (λ x. field_product x (power (point (132 + k)) j))
            (get_or-append_right plain checks 132 (132 + k) 0 long (omega arith) ∙ ap (at checks) (let e : 132 + k - 132 ≡ k = omega arith in e) ∙ ap (λ s. at s k) ec ∙ syndrome_at sums rows k b))
            ∙ check_sum sums rows long_sums sum_bytes units j l)
            ∙ xor_self (at sums j);
      };
      plain_first = take_at plain checks 132 long;
    }

-- ---- the test

pub syndrome : (word : List ℕ) (j : ℕ) → j < 16 → get_or (syndromes_of word) j 0 ≡ value_at (power 2 j) word
unfolding syndromes_of
syndrome word j l = get_or-map-range_with_len (λ j. value_at (power 2 j) word) 0 16 j j 0 l (omega arith)

zero_syndromes : (word : List ℕ) → ((j : ℕ) → j < 16 → value_at (power 2 j) word ≡ 0) → syndromes_of word ≡ replicate 16 0
unfolding syndromes_of
zero_syndromes word zeros = map_range_same (λ j. value_at (power 2 j) word) (λ j. 0) 0 16 (λ j l. zeros j (omega arith))

pub syndromes_tell : (word sums : List ℕ) (r : Bool) → length word ≡ 148 → AreBytes word → sums ≡ syndromes_of word → r ≡ pointwise eqb sums (replicate 16 0) → IsTrue r ↔ IsCodeword word
syndromes_tell word sums r long bytes es er =
    let decides = bytes_decides sums (replicate 16 0) in (
      λ t. record { long = long; bytes = bytes; zeros = λ j l. sym (syndrome word j l) ∙ ap (λ s. at s j) (sym es ∙ decides.0 (sym er ∙ t)) ∙ get_or-replicate 16 j 0 0 l },
      λ h. er ∙ decides.1 (es ∙ zero_syndromes word h.zeros),
    )

-- what a write behind the first 132 bytes leaves
pub put_behind : (front old new : List ℕ) → length front ≡ 132 → length old ≡ 16 → put_mid 132 16 (front ++ old) new ≡ front ++ new
put_behind front old new lf lo =
    ap₂ (λ a b. a ++ (new ++ b)) (take_at front old 132 lf) (drop-drop 16 132 (front ++ old) ∙ drop_all 148 (front ++ old) (omega (arith, length-append front old)))
    ∙ ap (λ l. front ++ l) (append-nil new)
