-- The first entry of a list whose key passes a test, by its place: a look-up, a removal and a change act there.
use Rattle.std.proofs.Common.{◌≡◌, ℕ, zero, suc, ◌+◌, ◌<◌, ◌≤◌, Bool, true, false, cond, nat_lt, not, List, [], ◌∷◌, length, get_or, Some, None, refl, ap, arith}
use Rattle.std.proofs.Math.ListN.{set}
use Rattle.std.proofs.lemmas.Bool.Decides.{nat_tests}
use Rattle.std.proofs.lemmas.List.Quantifiers.{position-Some}
use Rattle.std.specs.List.{position, position_or_len, remove}
use Rattle.std.specs.Map.{lookup, remove_entry, set_value}

-- a place that isn't given is past the end
past_end : (n len : ℕ) → cond (nat_lt n len) (Some n) None ≡ None → len ≤ n
past_end n len none = grind (arith, nat_tests)

module _ {K X : Type 0} (test : K → Bool) where
  -- the first entry whose key passes is at i
  pub record IsFirst (es : List (K × X)) (i : ℕ) : Type 0 where
    pub within : i < length es
    pub passes : (d : K × X) → test (get_or es i d).0 ≡ true
    pub none_before : (d : K × X) (k : ℕ) → k < i → test (get_or es k d).0 ≡ false

  -- what `position` gives is the first place
  pub IsFirst-position : (es : List (K × X)) (i : ℕ) → position (λ e. test e.0) es ≡ Some i → (d : K × X) → IsFirst es i
  IsFirst-position es i at d = record {
    within = (position-Some (λ e. test e.0) es i d at).0;
    passes = λ d. (position-Some (λ e. test e.0) es i d at).1;
    none_before = λ d. (position-Some (λ e. test e.0) es i d at).2;
  }

  -- the first place in the rest of the list
  IsFirst-tail : (e : K × X) (es : List (K × X)) (i : ℕ) → IsFirst (e ∷ es) (suc i) → IsFirst es i
  IsFirst-tail e es i f = let inside = f.within in record {
    within = omega arith;
    passes = f.passes;
    none_before = λ d k below. f.none_before d (suc k) (omega arith);
  }

  -- a look-up finds the value there
  pub lookup-first : (es : List (K × X)) (i : ℕ) (d : K × X) → IsFirst es i → lookup test es ≡ Some (get_or es i d).1
  lookup-first [] i d f = let inside = f.within in absurd (omega arith)
  lookup-first (e ∷ es) zero d f = let here : test e.0 ≡ true = f.passes d in rw here
  lookup-first (e ∷ es) (suc i) d f = let no : test e.0 ≡ false = f.none_before d 0 (omega arith) in rw no (lookup-first es i d (IsFirst-tail e es i f))

  -- a removal takes it out
  pub remove-first : (es : List (K × X)) (i : ℕ) (d : K × X) → IsFirst es i → remove es i ≡ remove_entry test es
  remove-first [] i d f = let inside = f.within in absurd (omega arith)
  remove-first (e ∷ es) zero d f = let here : test e.0 ≡ true = f.passes d in rw here
  remove-first (e ∷ es) (suc i) d f =
      let no : test e.0 ≡ false = f.none_before d 0 (omega arith) in
      rw no (ap (λ rest. e ∷ rest) (remove-first es i d (IsFirst-tail e es i f)))

  -- a change under the key that stands there
  pub set-first : (es : List (K × X)) (i : ℕ) (d : K × X) (v : X) → IsFirst es i → set es i ((get_or es i d).0, v) ≡ set_value test es v
  set-first [] i d v f = let inside = f.within in absurd (omega arith)
  set-first (e ∷ es) zero d v f = let here : test e.0 ≡ true = f.passes d in rw here
  set-first (e ∷ es) (suc i) d v f =
      let no : test e.0 ≡ false = f.none_before d 0 (omega arith) in
      rw no (ap (λ rest. e ∷ rest) (set-first es i d v (IsFirst-tail e es i f)))

  -- where no key passes up to the end, a look-up finds none
  lookup_past : (es : List (K × X)) → length es ≤ position_or_len (λ e. test e.0) es → lookup test es ≡ None
  lookup_past [] past = refl
  lookup_past (e ∷ es) past = (elim (test e.0) as (λ y. suc (length es) ≤ cond (not y) (1 + position_or_len (λ f. test f.0) es) 0 → cond y (Some e.1) (lookup test es) ≡ None) [
    | true ↦ λ past. absurd (omega arith)
    | false ↦ λ past. lookup_past es (omega arith)
  ]) past

  -- where `position` gives none, a look-up finds none
  pub lookup-no_position : (es : List (K × X)) → position (λ e. test e.0) es ≡ None → lookup test es ≡ None
  lookup-no_position es none = lookup_past es (past_end (position_or_len (λ e. test e.0) es) (length es) none)
