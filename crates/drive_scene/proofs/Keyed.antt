-- Lists in which things are found by a number.
use Rattle.std.proofs.Common.{◌≡◌, ◌≢◌, ℕ, zero, suc, ◌<◌, Bool, true, false, not, cond, List, [], ◌∷◌, ◌++◌, length, Option, Some, None, refl, sym, ap, ◌∙◌, eqb, subst, set, ltb, ◌≤◌}
use Rattle.std.specs.Prelude.{filter, position, slice_get}
use Rattle.std.specs.List.{find, position_or_len}
use Rattle.std.proofs.lemmas.Bool.{eq-eqb, ne_eqb, eqb-true, ltb-true, ltb-false}
use Rattle.std.proofs.lemmas.Option.{slice_get_past, get_or_from_slice_get}
use Rattle.std.proofs.lemmas.List.Folds.{find_at, find-set}
use Rattle.std.proofs.lemmas.List.Quantifiers.{position-Some}

module _ {X : Type 0} (key : X → ℕ) where
  -- none of a number is left where those of it are taken out
  pub find-dropped_own : (c : ℕ) (xs : List X) → find (λ x. eqb (key x) c) (filter (λ x. not (eqb (key x) c)) xs) ≡ None
  find-dropped_own c [] = refl
  find-dropped_own c (x ∷ xs) = by (find-dropped_own c xs) (eqb (key x) c) refl
    where
      by : find (λ y. eqb (key y) c) (filter (λ y. not (eqb (key y) c)) xs) ≡ None → (b : Bool) → eqb (key x) c ≡ b
          → find (λ y. eqb (key y) c) (cond (not b) (x ∷ filter (λ y. not (eqb (key y) c)) xs) (filter (λ y. not (eqb (key y) c)) xs)) ≡ None
      by rest true e = rest
      by rest false e = rw e rest

  -- those of another number stay
  pub find-dropped_other : (c q : ℕ) (xs : List X) → q ≢ c
      → find (λ x. eqb (key x) q) (filter (λ x. not (eqb (key x) c)) xs) ≡ find (λ x. eqb (key x) q) xs
  find-dropped_other c q [] other = refl
  find-dropped_other c q (x ∷ xs) other = by (find-dropped_other c q xs other) (eqb (key x) c) refl
    where
      by : find (λ y. eqb (key y) q) (filter (λ y. not (eqb (key y) c)) xs) ≡ find (λ y. eqb (key y) q) xs → (b : Bool) → eqb (key x) c ≡ b
          → find (λ y. eqb (key y) q) (cond (not b) (x ∷ filter (λ y. not (eqb (key y) c)) xs) (filter (λ y. not (eqb (key y) c)) xs)) ≡ find (λ y. eqb (key y) q) (x ∷ xs)
      by rest true e =
          let not_q : eqb (key x) q ≡ false = ne_eqb (key x) q (λ same. other (sym same ∙ eqb-true (key x) c e)) in
          rw not_q rest
      by rest false e = ap (λ (o : Option X). cond (eqb (key x) q) (Some x) o) rest

  -- one more is found by its number where none of that number is before it
  pub find-push_own : (c : ℕ) (xs : List X) (x : X) → find (λ y. eqb (key y) c) xs ≡ None → key x ≡ c
      → find (λ y. eqb (key y) c) (xs ++ x ∷ []) ≡ Some x
  find-push_own c [] x none is = ap (λ (t : Bool). cond t (Some x) None) (eq-eqb (key x) c is)
  find-push_own c (y ∷ ys) x none is = by (λ e. find-push_own c ys x e is) (eqb (key y) c) none
    where
      by : (find (λ z. eqb (key z) c) ys ≡ None → find (λ z. eqb (key z) c) (ys ++ x ∷ []) ≡ Some x) → (b : Bool) → cond b (Some y) (find (λ z. eqb (key z) c) ys) ≡ None → cond b (Some y) (find (λ z. eqb (key z) c) (ys ++ x ∷ [])) ≡ Some x
      by rest true e = absurd (cc)
      by rest false e = rest e

  pub find-push_other : (c q : ℕ) (xs : List X) (x : X) → key x ≡ c → q ≢ c
      → find (λ y. eqb (key y) q) (xs ++ x ∷ []) ≡ find (λ y. eqb (key y) q) xs
  find-push_other c q [] x is other = ap (λ (t : Bool). cond t (Some x) None) (ne_eqb (key x) q (λ same. other (sym same ∙ is)))
  find-push_other c q (y ∷ ys) x is other = ap (λ (o : Option X). cond (eqb (key y) q) (Some y) o) (find-push_other c q ys x is other)

  -- where the first of a number is
  chosen : (b : Bool) (n i : ℕ) → cond b (Some n) None ≡ Some i → (b ≡ true) × (i ≡ n)
  chosen true n i e = (refl, cc)
  chosen false n i e = absurd (cc)

  pub found_at : (c i : ℕ) (xs : List X) → position (λ x. eqb (key x) c) xs ≡ Some i
      → (i < length xs) × (find (λ x. eqb (key x) c) xs ≡ slice_get xs i) × (i ≡ position_or_len (λ x. eqb (key x) c) xs)
  found_at c i xs at =
      let p : X → Bool = λ x. eqb (key x) c in
      let both = chosen (ltb (position_or_len p xs) (length xs)) (position_or_len p xs) i at in
      let below : position_or_len p xs < length xs = ltb-true _ _ both.0 in
      (subst (λ (n : ℕ). n < length xs) (sym both.1) below, find_at p xs ∙ ap (slice_get xs) (sym both.1), both.1)

  -- none of a number is there where it has no place
  pub found_nowhere : (c : ℕ) (xs : List X) → position (λ x. eqb (key x) c) xs ≡ None → find (λ x. eqb (key x) c) xs ≡ None
  found_nowhere c xs at =
      let p : X → Bool = λ x. eqb (key x) c in
      find_at p xs ∙ by (ltb (position_or_len p xs) (length xs)) (ltb-false (position_or_len p xs) (length xs)) at
    where
      by : (b : Bool) → (b ≡ false → length xs ≤ position_or_len (λ x. eqb (key x) c) xs) → cond b (Some (position_or_len (λ x. eqb (key x) c) xs)) None ≡ None
          → slice_get xs (position_or_len (λ x. eqb (key x) c) xs) ≡ None
      by true far e = absurd (cc)
      by false far e = slice_get_past xs _ (far refl)

  -- the first of a number in place of the one that was there
  pub find-set_own : (c i : ℕ) (xs : List X) (y : X) → position (λ x. eqb (key x) c) xs ≡ Some i → key y ≡ c
      → find (λ x. eqb (key x) c) (set xs i y) ≡ Some y
  find-set_own c i xs y at is =
      let place = found_at c i xs at in
      find-set (λ x. eqb (key x) c) xs i y place.2 place.0 (eq-eqb (key y) c is)

  set_elsewhere : (q : X → Bool) (xs : List X) (i : ℕ) (y : X) → ((x : X) → slice_get xs i ≡ Some x → q x ≡ false) → q y ≡ false
      → find q (set xs i y) ≡ find q xs
  set_elsewhere q [] i y was is = refl
  set_elsewhere q (x ∷ xs) zero y was is = rw (is, was x refl) refl
  set_elsewhere q (x ∷ xs) (suc i) y was is = ap (λ (o : Option X). cond (q x) (Some x) o) (set_elsewhere q xs i y was is)

  pub find-set_other : (c q i : ℕ) (xs : List X) (y : X) → position (λ x. eqb (key x) c) xs ≡ Some i → key y ≡ c → q ≢ c
      → find (λ x. eqb (key x) q) (set xs i y) ≡ find (λ x. eqb (key x) q) xs
  find-set_other c q i xs y at is other =
      set_elsewhere (λ x. eqb (key x) q) xs i y
      (λ x there. ne_eqb (key x) q (λ same. other (sym same ∙ eqb-true (key x) c (at_passes (λ z. eqb (key z) c) xs i x at there))))
      (ne_eqb (key y) q (λ same. other (sym same ∙ is)))
    where
      at_passes : (p : X → Bool) (zs : List X) (k : ℕ) (x : X) → position p zs ≡ Some k → slice_get zs k ≡ Some x → p x ≡ true
      at_passes p zs k x placed there = subst (λ (z : X). p z ≡ true) (get_or_from_slice_get zs k x x there) (position-Some p zs k x placed).1

  -- where those are kept whose number passes a test
  kept_own : (b : Bool) (q : ℕ) (x : X) (kept : List X) (left : Option X) → eqb (key x) q ≡ true → find (λ y. eqb (key y) q) kept ≡ cond b left None
      → find (λ y. eqb (key y) q) (cond b (x ∷ kept) kept) ≡ cond b (Some x) None
  kept_own true q x kept left e rest = ap (λ (t : Bool). cond t (Some x) (find (λ y. eqb (key y) q) kept)) e
  kept_own false q x kept left e rest = rest

  kept_past : (b : Bool) (q : ℕ) (x : X) (kept : List X) → eqb (key x) q ≡ false
      → find (λ y. eqb (key y) q) (cond b (x ∷ kept) kept) ≡ find (λ y. eqb (key y) q) kept
  kept_past true q x kept e = ap (λ (t : Bool). cond t (Some x) (find (λ y. eqb (key y) q) kept)) e
  kept_past false q x kept e = refl

  pub find-kept : (p : ℕ → Bool) (q : ℕ) (xs : List X)
      → find (λ x. eqb (key x) q) (filter (λ x. p (key x)) xs) ≡ cond (p q) (find (λ x. eqb (key x) q) xs) None
  find-kept p q [] = none_kept (p q)
    where
      none_kept : (b : Bool) → (let none : Option X = None in none ≡ cond b none none)
      none_kept true = refl
      none_kept false = refl
  find-kept p q (x ∷ xs) = by (find-kept p q xs) (eqb (key x) q) refl
    where
      by : find (λ y. eqb (key y) q) (filter (λ y. p (key y)) xs) ≡ cond (p q) (find (λ y. eqb (key y) q) xs) None → (b : Bool) → eqb (key x) q ≡ b
          → find (λ y. eqb (key y) q) (cond (p (key x)) (x ∷ filter (λ y. p (key y)) xs) (filter (λ y. p (key y)) xs))
          ≡ cond (p q) (cond b (Some x) (find (λ y. eqb (key y) q) xs)) None
      by rest true e =
          ap (λ (n : ℕ). find (λ y. eqb (key y) q) (cond (p n) (x ∷ filter (λ y. p (key y)) xs) (filter (λ y. p (key y)) xs))) (eqb-true (key x) q e)
          ∙ kept_own (p q) q x (filter (λ y. p (key y)) xs) (find (λ y. eqb (key y) q) xs) e rest
      by rest false e = kept_past (p (key x)) q x (filter (λ y. p (key y)) xs) e ∙ rest
