-- Pairs that have spares of their own, one more at a time.
use Rattle.std.proofs.Common.{◌≡◌, ℕ, ◌+◌, ◌<◌, zero, suc, Bool, true, false, List, [], ◌∷◌, ◌++◌, length, get_or, take, sym, ◌∙◌, ap, subst, inl, inr, arith, length-take}
use Rattle.std.specs.Prelude.{◌==◌, All, AllPairs}
use Rattle.std.specs.List.{list_any}
use Rattle.std.proofs.lemmas.List.{get_or-take, get_or_default, take_more}
use Rattle.std.proofs.lemmas.List.Folds.{list_any_at, Any-from_list_any}
use Rattle.std.proofs.lemmas.List.Elements.{All-append, All-head, All-tail}
use Rattle.std.proofs.lemmas.List.Quantifiers.{all_pairs_push}
use Rattle.std.proofs.lemmas.Bool.Decides.{eqb_tells}
use Rattle.geometry_map.specs.declared.pair.Pair.{Pair}
use Rattle.geometry_map.specs.DefectMap.{HaveOwnSpares}

pub true_false : true ≡ false → ⊥
true_false e = cc

pub eqb_true : (x y : ℕ) → (x == y) ≡ true → x ≡ y
eqb_true x y e = elim (eqb_tells x y) [ inl w ↦ w.1 | inr w ↦ absurd (true_false (sym e ∙ w.0)) ]

pub eqb_same : (x y : ℕ) → x ≡ y → (x == y) ≡ true
eqb_same x y e = elim (eqb_tells x y) [ inl w ↦ w.0 | inr w ↦ absurd (w.1 e) ]

-- whether one of these pairs has that spare
abbrev pub has_spare_of : ℕ → List Pair → Bool
has_spare_of p pairs = list_any (λ pair. pair.new.0 == p) pairs

-- a pair whose spare an earlier one has
pub own_spares-fail : (pairs : List Pair) (i : ℕ) (d : Pair) → i < length pairs → has_spare_of (get_or pairs i d).new.0 (take i pairs) ≡ true → AllPairs HaveOwnSpares pairs → ⊥
own_spares-fail pairs i d within found own =
    let some = Any-from_list_any (λ pair. pair.new.0 == (get_or pairs i d).new.0) (take i pairs) found in
    let before : some.0 < i = omega (arith, some.2, length-take i pairs) in
    let earlier : get_or pairs some.0 some.1 ≡ some.1 = sym (get_or-take i pairs some.0 some.1 before) ∙ some.3 in
    let same : some.1.new.0 ≡ (get_or pairs i d).new.0 = eqb_true some.1.new.0 (get_or pairs i d).new.0 some.4 in
    let new : Pair → ℕ = λ pair. pair.new.0 in
    own some.0 i some.1 before within (ap new earlier ∙ same ∙ ap new (get_or_default pairs i d some.1 within))

-- a pair whose spare no earlier one has
pub own_spares-more : (pairs : List Pair) (i : ℕ) (d : Pair) → i < length pairs → has_spare_of (get_or pairs i d).new.0 (take i pairs) ≡ false
    → AllPairs HaveOwnSpares (take i pairs) → AllPairs HaveOwnSpares (take (i + 1) pairs)
own_spares-more pairs i d within none own =
    let here : Pair = get_or pairs i d in
    let apart : (k : ℕ) (e : Pair) → k < length (take i pairs) → HaveOwnSpares (get_or (take i pairs) k e) (get_or pairs i d) =
    λ k e in' same.
    let found : has_spare_of (get_or pairs i d).new.0 (take i pairs) ≡ true =
    list_any_at (λ pair. pair.new.0 == (get_or pairs i d).new.0) (take i pairs) k e in' (eqb_same (get_or (take i pairs) k e).new.0 (get_or pairs i d).new.0 same) in
    true_false (sym found ∙ none) in
    let P : List Pair → Type 0 = AllPairs HaveOwnSpares in
    subst P (sym (take_more pairs i d within)) (all_pairs_push HaveOwnSpares (take i pairs) (get_or pairs i d) own apart)

-- a pair with a spare of its own before others
pub AllPairs-cons : (pair : Pair) (pairs : List Pair) → All (HaveOwnSpares pair) pairs → AllPairs HaveOwnSpares pairs → AllPairs HaveOwnSpares (pair ∷ pairs)
AllPairs-cons pair pairs first rest zero zero d before within = absurd (omega arith)
AllPairs-cons pair pairs first rest zero (suc j) d before within = first j d (omega arith)
AllPairs-cons pair pairs first rest (suc i) zero d before within = absurd (omega arith)
AllPairs-cons pair pairs first rest (suc i) (suc j) d before within = rest i j d (omega arith) (omega arith)

-- lists of pairs with their own spares, one after the other
pub AllPairs-append : (pairs more : List Pair) → AllPairs HaveOwnSpares pairs → AllPairs HaveOwnSpares more → All (λ pair. All (HaveOwnSpares pair) more) pairs
    → AllPairs HaveOwnSpares (pairs ++ more)
AllPairs-append [] more own own' apart = own'
AllPairs-append (pair ∷ pairs) more own own' apart =
    AllPairs-cons pair (pairs ++ more)
    (All-append (HaveOwnSpares pair) pairs more (λ k d within. own 0 (suc k) d (omega arith) (omega arith)) (All-head (λ p. All (HaveOwnSpares p) more) pair pairs apart))
    (AllPairs-append pairs more (λ i j d before within. own (suc i) (suc j) d (omega arith) (omega arith)) own' (All-tail (λ p. All (HaveOwnSpares p) more) pair pairs apart))
