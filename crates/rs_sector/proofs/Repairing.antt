-- The list of the marked places, and the word with the errors taken out there.
use Rattle.std.proofs.Common.{◌≡◌, ◌≢◌, ◌⊎◌, ℕ, zero, suc, ◌+◌, ◌-◌, ◌/◌, ◌<◌, ◌≤◌, Bool, true, false, cond, List, length, set, take, replicate, bit_xor, refl, sym, ap, ap₂, ◌∙◌, subst, inl, inr, arith}
use Rattle.std.proofs.lemmas.Bool.{cases_lt, true≢false}
use Rattle.std.proofs.lemmas.Bool.Decides.{eqb_tells}
use Rattle.std.proofs.lemmas.List.{ext_get_or, length-set, length-take-le, get_or-take, get_or-set_same, get_or-set_other}
use Rattle.std.proofs.lemmas.Nat.{xor_lt}
use lib.Bits.{xor_assoc, xor_self, xor_zero_r}
use Rattle.rs_sector.specs.Field.{field_product, power, sum_below}
use Rattle.rs_sector.specs.Code.{point, AreBytes, count_below, syndromes_of}
use Rattle.rs_sector.specs.Decoding.{is_marked, marked, IsNearErased}
use Rattle.rs_sector.specs.Locating.{power_sum, AreSums, Solves, IsLocator, eliminated_values, is_suspect}
use Rattle.rs_sector.specs.Places.{ArePlaces, ListsMarked, AddsValues, AddsErrors}
use Rattle.rs_sector.proofs.FieldLaws.{product_zero_first}
use Rattle.rs_sector.proofs.Sums.{sum-suc, sum-zero, sum_same, count-suc, count_none, count_longer, count_same}
use Rattle.rs_sector.proofs.Codewords.{at, places_apart}
use Rattle.rs_sector.proofs.Errors.{tell, errors, error_sums, located, few_suspects}

pub counted_step : (marks : List Bool) (n c : ℕ) (b : Bool) → is_marked marks n ≡ b → c ≡ count_below (is_marked marks) n → c + cond b 1 0 ≡ count_below (is_marked marks) (n + 1)
counted_step marks n c b e h =
    ap₂ (λ x y. x + cond y 1 0) h (sym e) ∙ sym (count-suc (is_marked marks) n) ∙ ap (count_below (is_marked marks)) (let f : suc n ≡ n + 1 = omega arith in f)

pub counted_none : (marks : List Bool) → 0 ≡ count_below (is_marked marks) 0
counted_none marks = sym (count_none (is_marked marks) 0 (λ k l. absurd (omega arith)))

pub counted_all : (marks : List Bool) (n c : ℕ) → n ≡ 148 → c ≡ count_below (is_marked marks) n → c ≡ marked marks
unfolding marked
counted_all marks n c e h = h ∙ ap (count_below (is_marked marks)) e

-- ---- the list

pub lists_none : (marks : List Bool) → ListsMarked marks 0 (replicate 16 0) 0
lists_none marks = record {
  places = record { long = refl; few = omega arith; below = λ i l. absurd (omega arith); apart = λ i k l m. absurd (omega arith) };
  counted = counted_none marks;
  each = λ k l h. absurd (omega arith);
  sums = λ f zeros. sum-zero f ∙ sym (sum-zero (λ i. f (at (replicate 16 0) i)));
}

-- there is room while a marked place is left
pub lists_room : (marks : List Bool) (n : ℕ) (list : List ℕ) (count : ℕ) → n < 148 → marked marks ≤ 16 → is_marked marks n ≡ true → ListsMarked marks n list count → count < 16
unfolding marked
lists_room marks n list count l few m before =
    let more : count + 1 ≡ count_below (is_marked marks) (n + 1) = counted_step marks n count true m before.counted in
    let longer : count_below (is_marked marks) (n + 1) ≤ count_below (is_marked marks) 148 =
    subst (λ k. count_below (is_marked marks) (n + 1) ≤ count_below (is_marked marks) k) (let e : n + 1 + (147 - n) ≡ 148 = omega arith in e) (count_longer (is_marked marks) (n + 1) (147 - n)) in
    omega arith

pub lists_marked : (marks : List Bool) (n : ℕ) (list : List ℕ) (count : ℕ) → n < 148 → marked marks ≤ 16 → is_marked marks n ≡ true → ListsMarked marks n list count → ListsMarked marks (n + 1) (set list count n) (count + 1)
lists_marked marks n list count l few m before =
    let room : count < 16 = lists_room marks n list count l few m before in
    let next : List ℕ = set list count n in
    let last : at next count ≡ n = get_or-set_same list count n 0 (omega (arith, before.places.long)) in
    let kept : (i : ℕ) → i < count → at next i ≡ at list i = λ i h. get_or-set_other list count i n 0 (λ e. absurd (omega arith)) in
    record {
      places = record {
        long = length-set list count n ∙ before.places.long;
        few = omega arith;
        below = λ i h. elim (cases_lt i count) [
          | inl less ↦ let b : at list i < n = before.places.below i less in omega (arith, kept i less)
          | inr most ↦ let e : i ≡ count = omega arith in omega (arith, ap (at next) e, last)
        ];
        apart = λ i k h j e. elim (cases_lt k count) [
          | inl less ↦ before.places.apart i k h less (sym (kept i (omega arith)) ∙ e ∙ kept k less)
          | inr most ↦
              let same : k ≡ count = omega arith in
              let b : at list i < n = before.places.below i (omega arith) in
              let f : at list i ≡ n = sym (kept i (omega arith)) ∙ e ∙ ap (at next) same ∙ last in
              absurd (omega arith)
        ];
      };
      counted = counted_step marks n count true m before.counted;
      each = λ k h mark. elim (cases_lt k n) [
        | inl less ↦ let old = before.each k less mark in (old.0, omega (arith, old.1), kept old.0 old.1 ∙ old.2)
        | inr most ↦ let same : k ≡ n = omega arith in (count, omega arith, last ∙ sym same)
      ];
      sums = λ f zeros.
          ap (sum_below f) (let e : n + 1 ≡ suc n = omega arith in e) ∙ sum-suc f n
          ∙ ap₂ bit_xor (before.sums f (λ k h none. zeros k (omega arith) none) ∙ sum_same _ _ count (λ i h. ap f (sym (kept i h)))) (ap f (sym last))
          ∙ sym (sum-suc (λ i. f (at next i)) count) ∙ ap (sum_below (λ i. f (at next i))) (let e : suc count ≡ count + 1 = omega arith in e);
    }

pub lists_unmarked : (marks : List Bool) (n : ℕ) (list : List ℕ) (count : ℕ) → is_marked marks n ≡ false → ListsMarked marks n list count → ListsMarked marks (n + 1) list count
lists_unmarked marks n list count m before = record {
  places = record { long = before.places.long; few = before.places.few; below = λ i h. omega (arith, before.places.below i h); apart = before.places.apart };
  counted = let e : count + 0 ≡ count_below (is_marked marks) (n + 1) = counted_step marks n count false m before.counted in omega arith;
  each = λ k h mark. elim (cases_lt k n) [
    | inl less ↦ before.each k less mark
    | inr most ↦ let same : k ≡ n = omega arith in absurd (true≢false (sym mark ∙ ap (is_marked marks) same ∙ m))
  ];
  sums = λ f zeros.
      ap (sum_below f) (let e : n + 1 ≡ suc n = omega arith in e) ∙ sum-suc f n ∙ ap (bit_xor (sum_below f n)) (zeros n (omega arith) m) ∙ xor_zero_r (sum_below f n)
      ∙ before.sums f (λ k h none. zeros k (omega arith) none);
}

-- ---- the repair

pub points_apart_in_list : (list points : List ℕ) (count : ℕ) → ArePlaces 148 list count → length points ≡ 16 → ((i : ℕ) → i < count → at points i ≡ point (at list i))
    → (i k : ℕ) → i < k → k < length (take count points) → at (take count points) i ≢ at (take count points) k
points_apart_in_list list points count places long are i k l m e =
    let short : length (take count points) ≡ count = length-take-le count points (omega (arith, places.few)) in
    places_apart (at list i) (at list k) (places.below i (omega arith)) (places.below k (omega arith)) (places.apart i k l (omega arith))
    (sym (get_or-take count points i 0 (omega arith) ∙ are i (omega arith)) ∙ e ∙ get_or-take count points k 0 (omega arith) ∙ are k (omega arith))

-- a number is among the first of a list, or it is none of them
among : (list : List ℕ) (n k : ℕ) → ((i : ℕ) × (i < n) × (at list i ≡ k)) ⊎ ((i : ℕ) → i < n → at list i ≢ k)
among list zero k = inr (λ i l. absurd (omega arith))
among list (suc n) k =
    elim (eqb_tells (at list n) k) [
      | inl here ↦ inl (n, omega arith, here.1)
      | inr other ↦
          elim (among list n k) [
            | inl found ↦ inl (found.0, omega (arith, found.1), found.2)
            | inr none ↦ inr (λ i l. elim (cases_lt i n) [ inl less ↦ none i less | inr most ↦ let e : n ≡ i = omega arith in subst (λ m. at list m ≢ k) e other.1 ])
          ]
    ]

pub adds_errors : (marks : List Bool) (word sums list points solved values result : List ℕ) (count : ℕ) → length sums ≡ 16 → length points ≡ 16 → ListsMarked marks 148 list count → ((i : ℕ) → i < count → at points i ≡ point (at list i))
    → Solves (take count points) (take count sums) solved → ((i : ℕ) → i < count → at values i ≡ at solved i) → AddsValues list values count word result → AddsErrors marks sums word result
adds_errors marks word sums list points solved values result count long_sums long_points lists are solves same adds u bytes sums_are zeros k l =
    let short : length (take count sums) ≡ count = length-take-le count sums (omega (arith, lists.places.few)) in
    let listed_sums : (j : ℕ) → j < length (take count sums) → at (take count sums) j ≡ power_sum (λ i. u (at list i)) (at (take count points)) (length (take count sums)) j =
    λ j h.
    get_or-take count sums j 0 (omega arith) ∙ sums_are j (omega (arith, lists.places.few))
    ∙ lists.sums (λ k. field_product (u k) (power (point k) j)) (λ k b none. ap (λ x. field_product x (power (point k) j)) (zeros k b none) ∙ product_zero_first (power (point k) j))
    ∙ sum_same _ _ count (λ i b. ap (λ p. field_product (u (at list i)) (power p j)) (sym (get_or-take count points i 0 b ∙ are i b)))
    ∙ ap (λ m. power_sum (λ i. u (at list i)) (at (take count points)) m j) (sym short) in
    let found : (i : ℕ) → i < count → at values i ≡ u (at list i) = λ i h. same i h ∙ solves (λ i. u (at list i)) (λ i. bytes (at list i)) listed_sums i (omega arith) in
    elim (among list count k) [
      | inl here ↦
          ap (at result) (sym here.2) ∙ adds.listed here.0 here.1 ∙ ap₂ (λ m v. bit_xor (at word m) v) here.2 (found here.0 here.1 ∙ ap u here.2)
      | inr none ↦
          let unmarked : is_marked marks k ≡ false = elim (tell (is_marked marks k)) [ inl m ↦ let e = lists.each k l m in absurd (none e.0 e.1 e.2) | inr m ↦ m ] in
          adds.others k none ∙ sym (ap (bit_xor (at word k)) (zeros k l unmarked) ∙ xor_zero_r (at word k))
    ]

-- ---- the candidate

-- as many places are marked as are suspect
suspects_counted : (marks erased : List Bool) (polynomial : List ℕ) → ((k : ℕ) → k < 148 → is_marked marks k ≡ is_suspect erased polynomial k) → marked marks ≡ count_below (is_suspect erased polynomial) 148
unfolding marked
suspects_counted marks erased polynomial are = count_same (is_marked marks) (is_suspect erased polynomial) 148 are

pub never_too_many : (marks erased : List Bool) (rest polynomial : List ℕ) (rows : ℕ) → marked erased ≤ 16 → rows ≡ (16 - marked erased) / 2 → IsLocator rest rows polynomial
    → ((k : ℕ) → k < 148 → is_marked marks k ≡ is_suspect erased polynomial k) → marked marks ≤ 16
never_too_many marks erased rest polynomial rows few er locator are = subst (λ n. n ≤ 16) (sym (suspects_counted marks erased polynomial are)) (few_suspects erased rest polynomial rows few er locator)

pub candidate_is : (word codeword sums rest polynomial result : List ℕ) (erased marks : List Bool) (rows : ℕ) → length word ≡ 148 → AreBytes word → length result ≡ 148 → sums ≡ syndromes_of word → IsNearErased word erased codeword
    → rows ≡ (16 - marked erased) / 2 → ((values : ℕ → ℕ) → AreSums sums 16 values → (j : ℕ) → j + marked erased < 16 → at rest j ≡ power_sum (eliminated_values erased values 148) point 148 j)
    → IsLocator rest rows polynomial → ((k : ℕ) → k < 148 → is_marked marks k ≡ is_suspect erased polynomial k) → AddsErrors marks sums word result → result ≡ codeword
candidate_is word codeword sums rest polynomial result erased marks rows long bytes long_result es near er eliminated locator are adds =
    let u : ℕ → ℕ = errors word codeword in
    let sums_are : AreSums sums 16 u = error_sums word codeword sums long near.is_codeword es in
    let zeros : (k : ℕ) → k < 148 → is_marked marks k ≡ false → u k ≡ 0 =
    λ k l none. located word codeword rest polynomial erased rows long bytes near er (eliminated u sums_are) locator k l (sym (are k l) ∙ none) in
    ext_get_or 0 result codeword (long_result ∙ sym near.is_codeword.long) (λ k l.
    adds u (λ k. xor_lt 8 (at word k) (at codeword k) (bytes k) (near.is_codeword.bytes k)) sums_are zeros k (omega arith) ∙ xor_back (at word k) (at codeword k))
  where
    xor_back : (a b : ℕ) → bit_xor a (bit_xor a b) ≡ b
    xor_back a b = sym (xor_assoc a a b) ∙ ap (λ x. bit_xor x b) (xor_self a)
