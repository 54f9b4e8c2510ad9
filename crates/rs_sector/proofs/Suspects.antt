-- The values at the points of all places, block by block.
use Rattle.std.proofs.Common.{◌≡◌, ◌≢◌, ℕ, ◌+◌, ◌/◌, ◌%◌, ◌<◌, ◌≤◌, Bool, true, false, ◌||◌, eqb, List, [], ◌∷◌, map, length, get_or, set, take, refl, sym, ap, ap₂, ◌∙◌, inl, inr, arith, eq-eqb}
use Rattle.std.proofs.lemmas.Bool.{cases_lt}
use Rattle.std.proofs.lemmas.Bool.Decides.{eqb_tells}
use Rattle.std.specs.List.{range_with_len}
use Rattle.std.proofs.lemmas.List.{get_or-take, length-take-le, length-set, get_or-set_same, get_or-set_other}
use Rattle.std.proofs.lemmas.List.FromFn.{get_or-map-range_with_len}
use Rattle.rs_sector.specs.Field.{field_product, sum_below}
use Rattle.rs_sector.specs.Code.{point}
use Rattle.rs_sector.specs.Lanes.{entry, combination, combination_of, HoldBlocks}
use Rattle.rs_sector.specs.Decoding.{is_marked}
use Rattle.rs_sector.specs.Locating.{polynomial_at, is_suspect, HoldValues}
use Rattle.rs_sector.proofs.Sums.{sum_same}
use Rattle.rs_sector.proofs.Codewords.{at, syndrome_at}

or_true : (b : Bool) → (b || true) ≡ true
or_true true = refl
or_true false = refl

or_false : (b : Bool) → (b || false) ≡ b
or_false true = refl
or_false false = refl

not_zero : (a : ℕ) → a ≢ 0 → eqb a 0 ≡ false
not_zero a ne = elim (eqb_tells a 0) [ inl same ↦ absurd (ne same.1) | inr other ↦ other.0 ]

-- the values in the lanes of the blocks
pub values_hold : (polynomial low : List ℕ) (blocks : List (List (List ℕ))) (values : List (List ℕ)) → low ≡ take 9 polynomial → 9 ≤ length polynomial → HoldBlocks blocks
    → values ≡ map (λ b. combination_of low (get_or blocks b [])) (range_with_len 0 10) → HoldValues polynomial values
unfolding polynomial_at combination
values_hold polynomial low blocks values el long holds e k l =
    let long_low : length low ≡ 9 = ap length el ∙ length-take-le 9 polynomial long in
    ap (λ v. get_or (get_or v (k / 16) []) (k % 16) 0) e
    ∙ ap (λ s. get_or s (k % 16) 0) (get_or-map-range_with_len (λ b. combination_of low (get_or blocks b [])) 0 10 (k / 16) (k / 16) [] (omega arith) (omega arith))
    ∙ syndrome_at low (get_or blocks (k / 16) []) (k % 16) (omega arith)
    ∙ ap (sum_below (λ i. field_product (at low i) (entry (get_or blocks (k / 16) []) i (k % 16)))) long_low
    ∙ sum_same _ _ 9 (λ i h. ap₂ field_product (ap (λ s. at s i) el ∙ get_or-take 9 polynomial i 0 h) (holds k i l h))

pub ten_lanes : (f : ℕ → List ℕ) {a b c d e g h i j k : List ℕ} → a ≡ f 0 → b ≡ f 1 → c ≡ f 2 → d ≡ f 3 → e ≡ f 4 → g ≡ f 5 → h ≡ f 6 → i ≡ f 7 → j ≡ f 8 → k ≡ f 9
    → ◌≡◌ {A = List (List ℕ)} (a ∷ b ∷ c ∷ d ∷ e ∷ g ∷ h ∷ i ∷ j ∷ k ∷ []) (map f (range_with_len 0 10))
ten_lanes f ea eb ec ed ee eg eh ei ej ek =
    both ea (both eb (both ec (both ed (both ee (both eg (both eh (both ei (both ej (both ek refl)))))))))
  where
    both : {x y : List ℕ} {xs ys : List (List ℕ)} → x ≡ y → xs ≡ ys → x ∷ xs ≡ y ∷ ys
    both e es = ap₂ (λ z zs. z ∷ zs) e es

-- ---- the loop that marks the roots

-- the places below n are marked where they are suspect, and the others where they are erased
pub record MarksBelow (erased : List Bool) (polynomial : List ℕ) (marks : List Bool) (n : ℕ) : Type 0 where
  pub long : length marks ≡ 148
  pub done : (k : ℕ) → k < n → is_marked marks k ≡ is_suspect erased polynomial k
  pub left : (k : ℕ) → n ≤ k → is_marked marks k ≡ is_marked erased k

pub marks_none : (erased : List Bool) (polynomial : List ℕ) → length erased ≡ 148 → MarksBelow erased polynomial erased 0
marks_none erased polynomial long = record { long = long; done = λ k l. absurd (omega arith); left = λ k l. refl }

pub marks_root : (erased : List Bool) (polynomial : List ℕ) (marks : List Bool) (n : ℕ) → n < 148 → polynomial_at polynomial (point n) ≡ 0 → MarksBelow erased polynomial marks n → MarksBelow erased polynomial (set marks n true) (n + 1)
marks_root erased polynomial marks n l root before = record {
  long = length-set marks n true ∙ before.long;
  done = λ k h. elim (cases_lt k n) [
    | inl less ↦ get_or-set_other marks n k true false (λ same. absurd (omega (arith, same))) ∙ before.done k less
    | inr most ↦
        let same : k ≡ n = omega arith in
        ap (is_marked (set marks n true)) same ∙ get_or-set_same marks n true false (omega (arith, before.long))
        ∙ sym (ap (is_suspect erased polynomial) same ∙ ap (λ b. is_marked erased n || b) (eq-eqb (polynomial_at polynomial (point n)) 0 root) ∙ or_true (is_marked erased n))
  ];
  left = λ k h. get_or-set_other marks n k true false (λ same. absurd (omega (arith, same))) ∙ before.left k (omega arith);
}

pub marks_other : (erased : List Bool) (polynomial : List ℕ) (marks : List Bool) (n : ℕ) → polynomial_at polynomial (point n) ≢ 0 → MarksBelow erased polynomial marks n → MarksBelow erased polynomial marks (n + 1)
marks_other erased polynomial marks n other before = record {
  long = before.long;
  done = λ k h. elim (cases_lt k n) [
    | inl less ↦ before.done k less
    | inr most ↦
        let same : k ≡ n = omega arith in
        ap (is_marked marks) same ∙ before.left n (omega arith)
        ∙ sym (ap (is_suspect erased polynomial) same ∙ ap (λ b. is_marked erased n || b) (not_zero (polynomial_at polynomial (point n)) other) ∙ or_false (is_marked erased n))
  ];
  left = λ k h. before.left k (omega arith);
}
