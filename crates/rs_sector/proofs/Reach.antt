-- Codewords in reach: a codeword is in reach of itself, and another one is not.
use Rattle.std.proofs.Common.{◌≡◌, ◌≢◌, ℕ, suc, ◌+◌, ◌≤◌, Bool, true, false, cond, not, ◌&&◌, ◌||◌, List, replicate, refl, sym, ap, ap₂, ◌∙◌, inl, inr, arith, eq-eqb}
use Rattle.std.proofs.lemmas.Bool.{cases_lt, true≢false}
use Rattle.std.proofs.lemmas.Bool.Decides.{eqb_tells}
use Rattle.std.proofs.lemmas.List.{get_or-replicate, get_or_past}
use Rattle.rs_sector.specs.Code.{IsCodeword, count_below, differs_at, differing}
use Rattle.rs_sector.specs.Decoding.{is_marked, marked, differing_outside, IsNear, IsNearErased}
use Rattle.rs_sector.proofs.Sums.{count_none, count_same, count_weaker, count_either, count-suc}
use Rattle.rs_sector.proofs.Codewords.{at, minimum_distance}

same_everywhere : (word : List ℕ) (k : ℕ) → differs_at word word k ≡ false
same_everywhere word k = ap not (eq-eqb (at word k) (at word k) refl)

pub self_near : (word : List ℕ) (radius : ℕ) → IsCodeword word → IsNear word radius word
self_near word radius code = record { is_codeword = code; near = let e : differing word word ≡ 0 = count_none (differs_at word word) 148 (λ k l. same_everywhere word k) in omega arith }

pub alone_near : (word codeword : List ℕ) (radius : ℕ) → radius ≤ 8 → IsCodeword word → IsNear word radius codeword → word ≡ codeword
alone_near word codeword radius small code near = minimum_distance word codeword code near.is_codeword (omega (arith, near.near))

-- ---- without erased places

abbrev pub none_erased : List Bool
none_erased = replicate 148 false

none_is_marked : (k : ℕ) → is_marked none_erased k ≡ false
none_is_marked k = elim (cases_lt k 148) [ inl l ↦ get_or-replicate 148 k false false l | inr g ↦ get_or_past none_erased k false g ]

pub none_marked : marked none_erased ≡ 0
unfolding marked
none_marked = count_none (is_marked none_erased) 148 (λ k l. none_is_marked k)

pub outside_none : (a b : List ℕ) → differing_outside none_erased a b ≡ differing a b
unfolding differing_outside
outside_none a b = count_same _ _ 148 (λ k l. ap (λ m. differs_at a b k && not m) (none_is_marked k) ∙ and_true (differs_at a b k))
  where
    and_true : (b : Bool) → (b && true) ≡ b
    and_true true = refl
    and_true false = refl

pub near_without_erased : (word codeword : List ℕ) (radius : ℕ) → radius ≤ 8 → IsNear word radius codeword → IsNearErased word none_erased codeword
near_without_erased word codeword radius small near = record { is_codeword = near.is_codeword; near = omega (arith, near.near, outside_none word codeword, none_marked) }

-- ---- with erased places

pub self_near_erased : (word : List ℕ) (erased : List Bool) → marked erased ≤ 16 → IsCodeword word → IsNearErased word erased word
unfolding differing_outside
self_near_erased word erased few code = record {
  is_codeword = code;
  near =
      let e : differing_outside erased word word ≡ 0 = count_none _ 148 (λ k l. ap (λ d. d && not (is_marked erased k)) (same_everywhere word k)) in omega arith;
}

-- the places where two words differ are erased or counted outside
differing_within : (a b : List ℕ) (erased : List Bool) → differing a b ≤ differing_outside erased a b + marked erased
unfolding differing_outside marked
differing_within a b erased =
    let weaker : differing a b ≤ count_below (λ k. differs_at a b k && not (is_marked erased k) || is_marked erased k) 148 =
    count_weaker (differs_at a b) (λ k. differs_at a b k && not (is_marked erased k) || is_marked erased k) 148 (λ k l h. either (differs_at a b k) (is_marked erased k) h) in
    let both = count_either (λ k. differs_at a b k && not (is_marked erased k)) (is_marked erased) 148 in
    omega (arith, both)
  where
    either : (d m : Bool) → d ≡ true → (d && not m || m) ≡ true
    either true true h = refl
    either true false h = refl
    either false m h = absurd (true≢false (sym h))

pub alone_near_erased : (word codeword : List ℕ) (erased : List Bool) → IsCodeword word → IsNearErased word erased codeword → word ≡ codeword
alone_near_erased word codeword erased code near = minimum_distance word codeword code near.is_codeword (omega (arith, near.near, differing_within word codeword erased))

-- ---- at most one

-- where two words differ, one of them differs from a third
differs_from_third : (word a b : List ℕ) (k : ℕ) → differs_at a b k ≡ true → (differs_at word a k || differs_at word b k) ≡ true
differs_from_third word a b k h =
    elim (eqb_tells (at word k) (at a k)) [
      | inl first ↦
          elim (eqb_tells (at word k) (at b k)) [
            | inl second ↦ absurd (true≢false (sym h ∙ ap not (eq-eqb (at a k) (at b k) (sym first.1 ∙ second.1))))
            | inr second ↦ ap₂ (λ x y. not x || not y) first.0 second.0
          ]
      | inr first ↦ ap (λ x. not x || differs_at word b k) first.0
    ]

pub one_near : (word a b : List ℕ) (radius : ℕ) → radius ≤ 8 → IsNear word radius a → IsNear word radius b → a ≡ b
one_near word a b radius small near_a near_b =
    let apart : differing a b ≤ count_below (λ k. differs_at word a k || differs_at word b k) 148 = count_weaker (differs_at a b) (λ k. differs_at word a k || differs_at word b k) 148 (λ k l. differs_from_third word a b k) in
    let both = count_either (differs_at word a) (differs_at word b) 148 in
    minimum_distance a b near_a.is_codeword near_b.is_codeword (omega (arith, near_a.near, near_b.near, both))

pub one_near_erased : (word a b : List ℕ) (erased : List Bool) → IsNearErased word erased a → IsNearErased word erased b → a ≡ b
unfolding differing_outside
one_near_erased word a b erased near_a near_b =
    let p : ℕ → Bool = λ k. differs_at word a k && not (is_marked erased k) in
    let q : ℕ → Bool = λ k. differs_at word b k && not (is_marked erased k) in
    let outside : differing_outside erased a b ≤ count_below (λ k. p k || q k) 148 =
    count_weaker (λ k. differs_at a b k && not (is_marked erased k)) (λ k. p k || q k) 148 (λ k l. third (differs_at a b k) (differs_at word a k) (differs_at word b k) (is_marked erased k) (differs_from_third word a b k)) in
    let both = count_either p q 148 in
    minimum_distance a b near_a.is_codeword near_b.is_codeword (omega (arith, near_a.near, near_b.near, both, differing_within a b erased))
  where
    third : (d x y m : Bool) → (d ≡ true → (x || y) ≡ true) → (d && not m) ≡ true → (x && not m || (y && not m)) ≡ true
    third true true y false h e = refl
    third true false true false h e = refl
    third true false false false h e = absurd (true≢false (sym (h refl)))
    third true x y true h e = absurd (true≢false (sym e))
    third false x y m h e = absurd (true≢false (sym e))

-- ---- the count

pub outside_none_counted : (erased : List Bool) (a b : List ℕ) → 0 ≡ count_below (λ k. differs_at a b k && not (is_marked erased k)) 0
outside_none_counted erased a b = sym (count_none _ 0 (λ k l. absurd (omega arith)))

pub outside_step : (erased : List Bool) (a b : List ℕ) (n c : ℕ) (t : Bool) → (differs_at a b n && not (is_marked erased n)) ≡ t → c ≡ count_below (λ k. differs_at a b k && not (is_marked erased k)) n
    → c + cond t 1 0 ≡ count_below (λ k. differs_at a b k && not (is_marked erased k)) (n + 1)
outside_step erased a b n c t e h =
    let test : ℕ → Bool = λ k. differs_at a b k && not (is_marked erased k) in
    ap₂ (λ x y. x + cond y 1 0) h (sym e) ∙ sym (count-suc test n) ∙ ap (count_below test) (let f : suc n ≡ n + 1 = omega arith in f)

pub outside_all : (erased : List Bool) (a b : List ℕ) (n c : ℕ) → n ≡ 148 → c ≡ count_below (λ k. differs_at a b k && not (is_marked erased k)) n → c ≡ differing_outside erased a b
unfolding differing_outside
outside_all erased a b n c e h = h ∙ ap (count_below (λ k. differs_at a b k && not (is_marked erased k))) e

-- the test of a place that is erased, where the words are the same, or where they differ
pub test_erased : (a b : List ℕ) (erased : List Bool) (k : ℕ) → is_marked erased k ≡ true → (differs_at a b k && not (is_marked erased k)) ≡ false
test_erased a b erased k m = ap (λ x. differs_at a b k && not x) m ∙ and_false (differs_at a b k)
  where
    and_false : (b : Bool) → (b && false) ≡ false
    and_false true = refl
    and_false false = refl

pub test_same : (a b : List ℕ) (erased : List Bool) (k : ℕ) → at a k ≡ at b k → (differs_at a b k && not (is_marked erased k)) ≡ false
test_same a b erased k e = ap (λ x. not x && not (is_marked erased k)) (eq-eqb (at a k) (at b k) e)

pub test_differs : (a b : List ℕ) (erased : List Bool) (k : ℕ) → is_marked erased k ≡ false → at a k ≢ at b k → (differs_at a b k && not (is_marked erased k)) ≡ true
test_differs a b erased k m ne = elim (eqb_tells (at a k) (at b k)) [ inl same ↦ absurd (ne same.1) | inr other ↦ ap₂ (λ x y. not x && not y) other.0 m ]
