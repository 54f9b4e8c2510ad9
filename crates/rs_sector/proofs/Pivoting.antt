-- How a column is cleared by the pivots, and that a polynomial is found once the rows are used up.
use Rattle.std.proofs.Common.{◌≡◌, ◌≢◌, ℕ, zero, suc, ◌+◌, ◌-◌, ◌<◌, ◌≤◌, Bool, true, false, cond, not, eqb, List, [], ◌++◌, length, get_or, set, take, drop, replicate, bit_xor, sym, ap, ap₂, ◌∙◌, subst, inl, inr, arith, below_more}
use Rattle.std.proofs.lemmas.Bool.{cases_lt, true≢false}
use Rattle.std.proofs.lemmas.Bool.Decides.{eqb_tells}
use Rattle.std.proofs.lemmas.List.{get_or_past, get_or-take, get_or-drop, get_or-set_same, get_or-set_other, length-set, get_or-replicate, get_or_append_left, get_or-append_right, length-append}
use lib.Bits.{xor_self, xor_zero_r}
use Rattle.rs_sector.specs.Field.{field_product}
use Rattle.rs_sector.specs.Code.{AreBytes, count_below}
use Rattle.rs_sector.specs.Lanes.{AddsScaled}
use Rattle.rs_sector.specs.Locating.{row_sum}
use Rattle.rs_sector.specs.Pivots.{IsColumn, IsPivot, ArePivots, IsReduced, is_filled}
use Rattle.rs_sector.specs.declared.locate.Pivots.{Pivots}
use Rattle.rs_sector.specs.declared.locate.Reduced.{Reduced}
use Rattle.rs_sector.proofs.FieldLaws.{product_comm, product_assoc, product-zero, product-one, product_of_sum_first}
use Rattle.rs_sector.proofs.Sums.{sum_same, sum_of_sums, sum_pick, product_of_sums, count-suc, count_same, count_none, count-le}
use Rattle.rs_sector.proofs.Codewords.{at}

-- ---- a column at the start

-- the power of this degree: 1 in its place among zeros
power_at : (degree i : ℕ) → degree < 16 → at (set (replicate 16 0) degree 1) i ≡ cond (eqb i degree) 1 0
power_at degree i l =
    elim (eqb_tells i degree) [
      | inl same ↦ ap (at (set (replicate 16 0) degree 1)) same.1 ∙ get_or-set_same (replicate 16 0) degree 1 0 l ∙ sym (ap (λ b. cond b 1 0) same.0)
      | inr other ↦ get_or-set_other (replicate 16 0) degree i 1 0 other.1 ∙ zeros i ∙ sym (ap (λ b. cond b 1 0) other.0)
    ]
  where
    zeros : (i : ℕ) → at (replicate 16 0) i ≡ 0
    zeros i = elim (cases_lt i 16) [ inl l ↦ get_or-replicate 16 i 0 0 l | inr g ↦ get_or_past (replicate 16 0) i 0 g ]

pub column_start : (sums row_sums : List ℕ) (degree : ℕ) → degree ≤ 8 → AreBytes sums → length row_sums ≡ 16 → AreBytes row_sums → ((j : ℕ) → j < 8 → at row_sums j ≡ at sums (degree + j)) → IsColumn sums degree (set (replicate 16 0) degree 1) row_sums
unfolding row_sum
column_start sums row_sums degree low bytes long row_bytes are =
    let small : degree < 16 = omega arith in
    record {
      monic = record {
        highest = get_or-set_same (replicate 16 0) degree 1 0 small;
        above = λ i l. elim (eqb_tells i degree) [ inl same ↦ absurd (omega (arith, same.1)) | inr other ↦ power_at degree i small ∙ ap (λ b. cond b 1 0) other.0 ];
      };
      long = length-set (replicate 16 0) degree 1;
      bytes = λ i. elim (eqb_tells i degree) [
        | inl same ↦ subst (λ x. x < 256) (sym (power_at degree i small ∙ ap (λ b. cond b 1 0) same.0)) (omega arith)
        | inr other ↦ subst (λ x. x < 256) (sym (power_at degree i small ∙ ap (λ b. cond b 1 0) other.0)) (omega arith)
      ];
      long_sums = long;
      sum_bytes = row_bytes;
      sums_are = λ j l.
          are j l ∙ sym (sum_pick (λ i. at sums (i + j)) degree 9 (bytes (degree + j)) (omega arith))
          ∙ sum_same _ _ 9 (λ i h. product_comm (at sums (i + j)) (cond (eqb i degree) 1 0) ∙ ap (λ x. field_product x (at sums (i + j))) (sym (power_at degree i small)));
    }

-- ---- a column cleared in one row more

row_sum_adds : (sums old new lanes : List ℕ) (factor j : ℕ) → AddsScaled old new factor lanes → row_sum sums new j ≡ bit_xor (row_sum sums old j) (field_product factor (row_sum sums lanes j))
unfolding row_sum
row_sum_adds sums old new lanes factor j adds =
    sum_same _ (λ i. bit_xor (field_product (at old i) (at sums (i + j))) (field_product factor (field_product (at lanes i) (at sums (i + j))))) 9 (λ i l.
    ap (λ x. field_product x (at sums (i + j))) (adds.sums i (omega arith)) ∙ product_of_sum_first (at old i) (field_product factor (at lanes i)) (at sums (i + j))
    ∙ ap (bit_xor (field_product (at old i) (at sums (i + j)))) (product_assoc factor (at lanes i) (at sums (i + j))))
    ∙ sum_of_sums (λ i. field_product (at old i) (at sums (i + j))) (λ i. field_product factor (field_product (at lanes i) (at sums (i + j)))) 9
    ∙ ap (bit_xor (row_sum sums old j)) (sym (product_of_sums factor (λ i. field_product (at lanes i) (at sums (i + j))) 9))

pub column_cleared : (sums : List ℕ) (degree row : ℕ) (polynomial row_sums next next_sums pivot pivot_sums : List ℕ) (inverse factor : ℕ) → degree < 16 → row < 8 → IsColumn sums degree polynomial row_sums
    → IsPivot sums degree row pivot pivot_sums inverse → factor ≡ field_product (at row_sums row) inverse → AddsScaled polynomial next factor pivot → AddsScaled row_sums next_sums factor pivot_sums
    → IsColumn sums degree next next_sums
column_cleared sums degree row polynomial row_sums next next_sums pivot pivot_sums inverse factor small within column is e adds adds_sums =
    let kept : (i : ℕ) → degree ≤ i → i < 16 → at next i ≡ at polynomial i =
    λ i l h. adds.sums i h ∙ ap (bit_xor (at polynomial i)) (ap (field_product factor) (is.above i l) ∙ product-zero factor) ∙ xor_zero_r (at polynomial i) in
    record {
      monic = record {
        highest = kept degree (omega arith) small ∙ column.monic.highest;
        above = λ i l. elim (cases_lt i 16) [ inl h ↦ kept i (omega arith) h ∙ column.monic.above i l | inr g ↦ get_or_past next i 0 (omega (arith, adds.long)) ];
      };
      long = adds.long;
      bytes = adds.bytes;
      long_sums = adds_sums.long;
      sum_bytes = adds_sums.bytes;
      sums_are = λ j l.
          adds_sums.sums j (omega arith) ∙ ap₂ (λ a b. bit_xor a (field_product factor b)) (column.sums_are j l) (is.sums_are j l)
          ∙ sym (row_sum_adds sums polynomial next pivot factor j adds);
    }

-- the row and those before it are 0 then
pub rows_cleared : (sums : List ℕ) (degree row : ℕ) (row_sums next_sums pivot pivot_sums : List ℕ) (inverse factor : ℕ) → row < 8 → AreBytes row_sums → IsPivot sums degree row pivot pivot_sums inverse
    → factor ≡ field_product (at row_sums row) inverse → AddsScaled row_sums next_sums factor pivot_sums → ((j : ℕ) → j < row → at row_sums j ≡ 0) → (j : ℕ) → j < row + 1 → at next_sums j ≡ 0
rows_cleared sums degree row row_sums next_sums pivot pivot_sums inverse factor within bytes is e adds zeros j l =
    elim (cases_lt j row) [
      | inl less ↦ adds.sums j (omega arith) ∙ ap₂ (λ a b. bit_xor a (field_product factor b)) (zeros j less) (is.before j less) ∙ product-zero factor
      | inr most ↦
          let same : j ≡ row = omega arith in
          let lead : ℕ = at row_sums row in
          let taken : field_product factor (at pivot_sums row) ≡ lead =
          ap (λ x. field_product x (at pivot_sums row)) e ∙ product_assoc lead inverse (at pivot_sums row) ∙ ap (field_product lead) (product_comm inverse (at pivot_sums row) ∙ is.inverse_is) ∙ product-one lead (bytes row) in
          ap (at next_sums) same ∙ adds.sums row (omega arith) ∙ ap (bit_xor lead) taken ∙ xor_self lead
    ]

pub rows_zero_more : (row_sums : List ℕ) (row : ℕ) → at row_sums row ≡ 0 → ((j : ℕ) → j < row → at row_sums j ≡ 0) → (j : ℕ) → j < row + 1 → at row_sums j ≡ 0
rows_zero_more row_sums row here zeros = below_more _ _ zeros here

-- ---- the pivots

-- one number more passes
pub count_one_more : (p q : ℕ → Bool) (r n : ℕ) → r < n → p r ≡ false → q r ≡ true → ((k : ℕ) → k ≢ r → q k ≡ p k) → count_below q n ≡ count_below p n + 1
count_one_more p q r zero l before after others = absurd (omega arith)
count_one_more p q r (suc n) l before after others =
    elim (cases_lt r n) [
      | inl less ↦
          let other : n ≢ r = omega arith in
          count-suc q n ∙ ap₂ (λ a b. a + cond b 1 0) (count_one_more p q r n less before after others) (others n other) ∙ omega arith ∙ ap (λ c. c + 1) (sym (count-suc p n))
      | inr most ↦
          let same : n ≡ r = omega arith in
          count-suc q n ∙ ap₂ (λ a b. a + cond b 1 0) (count_same q p n (λ k h. others k (omega arith))) (ap q same ∙ after)
          ∙ ap (λ c. c + 1) (sym (count-suc p n ∙ ap (λ b. count_below p n + cond b 1 0) (ap p same ∙ before) ∙ omega arith))
    ]

-- what the column of a power begins with, as it is copied from the sums
pub window_start : (sums part : List ℕ) (degree : ℕ) → AreBytes sums → degree ≤ 8 → length part ≡ 8 → part ≡ take (degree + 8 - degree) (drop degree sums)
    → IsColumn sums degree (set (replicate 16 0) degree 1) (part ++ replicate 8 0)
window_start sums part degree bytes low long e =
    let at_part : (j : ℕ) → j < 8 → at part j ≡ at sums (degree + j) = λ j l. ap (λ s. at s j) e ∙ get_or-take (degree + 8 - degree) (drop degree sums) j 0 (omega arith) ∙ get_or-drop degree sums j 0 in
    let first : (j : ℕ) → j < 8 → at (part ++ replicate 8 0) j ≡ at sums (degree + j) = λ j l. get_or_append_left part (replicate 8 0) 0 j (omega arith) ∙ at_part j l in
    let zero : (j : ℕ) → at (replicate 8 0) j ≡ 0 = λ j. elim (cases_lt j 8) [ inl l ↦ get_or-replicate 8 j 0 0 l | inr g ↦ get_or_past (replicate 8 0) j 0 g ] in
    column_start sums (part ++ replicate 8 0) degree low bytes (length-append part (replicate 8 0) ∙ ap (λ n. n + 8) long)
    (λ j. elim (cases_lt j 8) [
      | inl l ↦ subst (λ x. x < 256) (sym (first j l)) (bytes (degree + j))
      | inr g ↦ subst (λ x. x < 256) (sym (get_or-append_right part (replicate 8 0) 8 j 0 long g ∙ zero (j - 8))) (omega arith)
    ])
    first

-- what is not 0 is found so by the test
pub filled : (a : ℕ) → a ≢ 0 → not (eqb a 0) ≡ true
filled a ne = elim (eqb_tells a 0) [ inl same ↦ absurd (ne same.1) | inr other ↦ ap not other.0 ]

-- without inverses there is no pivot
pub pivots_none : (sums : List ℕ) (rows : ℕ) (pivots : Pivots) → length pivots.polynomials ≡ 8 → length pivots.row_sums ≡ 8 → pivots.inverses ≡ replicate 8 0 → ArePivots sums 0 rows pivots
pivots_none sums rows pivots lp ls e =
    let zero : (row : ℕ) → at (replicate 8 0) row ≡ 0 = λ j. elim (cases_lt j 8) [ inl l ↦ get_or-replicate 8 j 0 0 l | inr g ↦ get_or_past (replicate 8 0) j 0 g ] in
    let none : (row : ℕ) → is_filled pivots row ≡ false = λ row. ap (λ x. not (eqb x 0)) (ap (λ s. at s row) e ∙ zero row) in
    record {
      pivot = λ row l h. absurd (true≢false (sym h ∙ none row));
      count = count_none (is_filled pivots) rows (λ row l. none row);
      long_polynomials = lp;
      long_sums = ls;
      long_inverses = ap length e;
    }

-- a column that no pivot clears becomes one
pub pivots_more : (sums : List ℕ) (degree rows : ℕ) (pivots : Pivots) (reduced : Reduced) (inverse : ℕ) → rows ≤ 8 → reduced.row ≢ rows → ArePivots sums degree rows pivots → IsReduced sums degree rows pivots reduced
    → field_product (at reduced.row_sums reduced.row) inverse ≡ 1
    → ArePivots sums (degree + 1) rows (record {
      polynomials = set pivots.polynomials reduced.row reduced.polynomial;
      row_sums = set pivots.row_sums reduced.row reduced.row_sums;
      inverses = set pivots.inverses reduced.row inverse;
    })
pivots_more sums degree rows pivots reduced inverse few other before is unit =
    let r : ℕ = reduced.row in
    let within : r < rows = omega (arith, is.within) in
    let next : Pivots = record { polynomials = set pivots.polynomials r reduced.polynomial; row_sums = set pivots.row_sums r reduced.row_sums; inverses = set pivots.inverses r inverse } in
    let nonzero : inverse ≢ 0 = λ z. let bad : ◌≡◌ {A = ℕ} 0 1 = sym (ap (field_product (at reduced.row_sums r)) z ∙ product-zero (at reduced.row_sums r)) ∙ unit in absurd (omega arith) in
    let here : at (set pivots.inverses r inverse) r ≡ inverse = get_or-set_same pivots.inverses r inverse 0 (omega (arith, before.long_inverses)) in
    let others : (k : ℕ) → k ≢ r → is_filled next k ≡ is_filled pivots k = λ k ne. ap (λ x. not (eqb x 0)) (get_or-set_other pivots.inverses r k inverse 0 ne) in
    let after : is_filled next r ≡ true = ap (λ x. not (eqb x 0)) here ∙ filled inverse nonzero in
    let new_pivot : IsPivot sums (degree + 1) r reduced.polynomial reduced.row_sums inverse = record {
      above = λ i l. is.column.monic.above i (omega arith);
      before = is.before;
      sums_are = is.column.sums_are;
      inverse_is = unit;
    } in
    record {
      pivot = λ k l h. elim (eqb_tells k r) [
        | inl same ↦
            subst (λ i. IsPivot sums (degree + 1) i (get_or (set pivots.polynomials r reduced.polynomial) i []) (get_or (set pivots.row_sums r reduced.row_sums) i []) (at (set pivots.inverses r inverse) i)) (sym same.1)
            (subst (λ x. IsPivot sums (degree + 1) r (get_or (set pivots.polynomials r reduced.polynomial) r []) (get_or (set pivots.row_sums r reduced.row_sums) r []) x) (sym here)
            (subst (λ p. IsPivot sums (degree + 1) r p (get_or (set pivots.row_sums r reduced.row_sums) r []) inverse) (sym (get_or-set_same pivots.polynomials r reduced.polynomial [] (omega (arith, before.long_polynomials))))
            (subst (λ s. IsPivot sums (degree + 1) r reduced.polynomial s inverse) (sym (get_or-set_same pivots.row_sums r reduced.row_sums [] (omega (arith, before.long_sums)))) new_pivot)))
        | inr apart ↦
            let old = before.pivot k l (sym (others k apart.1) ∙ h) in
            let raised : IsPivot sums (degree + 1) k (get_or pivots.polynomials k []) (get_or pivots.row_sums k []) (at pivots.inverses k) =
            record { above = λ i g. old.above i (omega arith); before = old.before; sums_are = old.sums_are; inverse_is = old.inverse_is } in
            subst (λ x. IsPivot sums (degree + 1) k (get_or (set pivots.polynomials r reduced.polynomial) k []) (get_or (set pivots.row_sums r reduced.row_sums) k []) x) (sym (get_or-set_other pivots.inverses r k inverse 0 apart.1))
            (subst (λ p. IsPivot sums (degree + 1) k p (get_or (set pivots.row_sums r reduced.row_sums) k []) (at pivots.inverses k)) (sym (get_or-set_other pivots.polynomials r k reduced.polynomial [] apart.1))
            (subst (λ s. IsPivot sums (degree + 1) k (get_or pivots.polynomials k []) s (at pivots.inverses k)) (sym (get_or-set_other pivots.row_sums r k reduced.row_sums [] apart.1)) raised))
      ];
      count = count_one_more (is_filled pivots) (is_filled next) r rows within (is.empty within) after others ∙ ap (λ n. n + 1) before.count;
      long_polynomials = length-set pivots.polynomials r reduced.polynomial ∙ before.long_polynomials;
      long_sums = length-set pivots.row_sums r reduced.row_sums ∙ before.long_sums;
      long_inverses = length-set pivots.inverses r inverse ∙ before.long_inverses;
    }

-- there are no more pivots than rows
pub pivots_few : (sums : List ℕ) (degree rows : ℕ) (pivots : Pivots) → ArePivots sums degree rows pivots → degree ≤ rows
pivots_few sums degree rows pivots are = omega (arith, count-le (is_filled pivots) rows, are.count)
