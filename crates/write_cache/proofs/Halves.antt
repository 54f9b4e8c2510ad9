-- What the changes of one half keep: that no key stands twice, and that a key isn't there.
use Rattle.std.proofs.Common.{◌≡◌, ℕ, zero, suc, ◌≤◌, Bool, true, false, cond, List, [], ◌∷◌, ◌++◌, length, take, Some, None, refl, sym, ap, subst, ◌∙◌, arith}
use Rattle.std.specs.Cmp.{IsEquivalence}
use Rattle.std.specs.List.{AllByRecursion, IsDistinct, list_any}
use Rattle.std.specs.Map.{keys_of, lookup, lookup_entry, remove_entry}
use Rattle.std.proofs.lemmas.Map.{NonePasses, lookup-none, none_passes_from_lookup, lookup-remove_entry}
use Rattle.std.proofs.lemmas.Map.Keys.{IsDistinct-push}
use Rattle.std.proofs.lemmas.Map.Made.{is_some-lookup}
use Rattle.std.specs.Option.{is_some}

module _ {K X : Type 0} where
  -- what holds of each key holds of each in the first n entries
  all_keys-take : (P : K → Type 0) (n : ℕ) (es : List (K × X)) → AllByRecursion P (keys_of es) → AllByRecursion P (keys_of (take n es))
  all_keys-take P zero es h = tt
  all_keys-take P (suc n) [] h = tt
  all_keys-take P (suc n) (e ∷ es) h = (h.0, all_keys-take P n es h.1)

  -- and without an entry
  all_keys-remove : (P : K → Type 0) (test : K → Bool) (es : List (K × X)) → AllByRecursion P (keys_of es) → AllByRecursion P (keys_of (remove_entry test es))
  all_keys-remove P test [] h = tt
  all_keys-remove P test (e ∷ es) h = elim (test e.0) as (λ y. AllByRecursion P (keys_of (cond y es (e ∷ remove_entry test es)))) [
    | true ↦ h.1
    | false ↦ (h.0, all_keys-remove P test es h.1)
  ]

  -- no key passes
  abbrev Lacks : (K → Bool) → List (K × X) → Type 0
  Lacks test es = AllByRecursion (λ k. test k ≡ false) (keys_of es)

  -- a fact of each entry's key is one of each key
  lacks_none : (test : K → Bool) (es : List (K × X)) → NonePasses test es → Lacks test es
  lacks_none test [] h = tt
  lacks_none test (e ∷ es) h = (h.0, lacks_none test es h.1)

  -- and the other way round
  none_lacks : (test : K → Bool) (es : List (K × X)) → Lacks test es → NonePasses test es
  none_lacks test [] h = tt
  none_lacks test (e ∷ es) h = (h.0, none_lacks test es h.1)

  -- a look-up that finds none says that no key passes
  Lacks-from_lookup : (test : K → Bool) (es : List (K × X)) → lookup test es ≡ None → Lacks test es
  Lacks-from_lookup test es none = lacks_none test es (none_passes_from_lookup test es none)

  -- and the other way round
  lookup-lacks : (test : K → Bool) (es : List (K × X)) → Lacks test es → lookup test es ≡ None
  lookup-lacks test es h = lookup-none test es (none_lacks test es h)

  -- a removal of what isn't there changes nothing
  pub remove_entry-none : (test : K → Bool) (es : List (K × X)) → lookup test es ≡ None → remove_entry test es ≡ es
  remove_entry-none test [] none = refl
  remove_entry-none test (e ∷ es) none = (elim (test e.0) as (λ y. cond y (Some e.1) (lookup test es) ≡ None → cond y es (e ∷ remove_entry test es) ≡ e ∷ es) [
    | true ↦ λ none. cc
    | false ↦ λ none. ap (λ rest. e ∷ rest) (remove_entry-none test es none)
  ]) none

  -- a removal of what is there leaves one entry less
  pub length-remove_entry : (test : K → Bool) (es : List (K × X)) (e : K × X) → lookup_entry test es ≡ Some e → suc (length (remove_entry test es)) ≡ length es
  length-remove_entry test [] e some = cc
  length-remove_entry test (f ∷ es) e some = (elim (test f.0) as (λ y. cond y (Some f) (lookup_entry test es) ≡ Some e → suc (length (cond y es (f ∷ remove_entry test es))) ≡ suc (length es)) [
    | true ↦ λ some. refl
    | false ↦ λ some. ap suc (length-remove_entry test es e some)
  ]) some

  -- a removal leaves no more entries
  pub length-remove_entry-le : (test : K → Bool) (es : List (K × X)) → length (remove_entry test es) ≤ length es
  length-remove_entry-le test [] = omega arith
  length-remove_entry-le test (f ∷ es) = let shorter = length-remove_entry-le test es in elim (test f.0) as (λ y. length (cond y es (f ∷ remove_entry test es)) ≤ suc (length es)) [
    | true ↦ omega arith
    | false ↦ omega arith
  ]

  -- an entry behind all others is found by its own key alone
  pub lookup-push : (test : K → Bool) (es : List (K × X)) (e : K × X) → test e.0 ≡ false → lookup test (es ++ e ∷ []) ≡ lookup test es
  lookup-push test [] e differs = rw differs
  lookup-push test (f ∷ es) e differs = ap (λ rest. cond (test f.0) (Some f.1) rest) (lookup-push test es e differs)

  -- the keys with one entry more
  keys_of-push : (es : List (K × X)) (e : K × X) → keys_of (es ++ e ∷ []) ≡ keys_of es ++ e.0 ∷ []
  keys_of-push [] e = refl
  keys_of-push (f ∷ es) e = ap (λ rest. f.0 ∷ rest) (keys_of-push es e)

  module _ (eq : K → K → Bool) where
    -- no key stands twice among the first n
    IsDistinct-take : (n : ℕ) (es : List (K × X)) → IsDistinct eq (keys_of es) → IsDistinct eq (keys_of (take n es))
    unfolding IsDistinct
    IsDistinct-take zero es h = tt
    IsDistinct-take (suc n) [] h = tt
    IsDistinct-take (suc n) (e ∷ es) h = (all_keys-take (λ k. eq e.0 k ≡ false) n es h.0, IsDistinct-take n es h.1)

    -- nor without an entry
    pub IsDistinct-remove_entry : (test : K → Bool) (es : List (K × X)) → IsDistinct eq (keys_of es) → IsDistinct eq (keys_of (remove_entry test es))
    unfolding IsDistinct
    IsDistinct-remove_entry test [] h = tt
    IsDistinct-remove_entry test (e ∷ es) h = elim (test e.0) as (λ y. IsDistinct eq (keys_of (cond y es (e ∷ remove_entry test es)))) [
      | true ↦ h.1
      | false ↦ (all_keys-remove (λ k. eq e.0 k ≡ false) test es h.0, IsDistinct-remove_entry test es h.1)
    ]

    module _ (laws : IsEquivalence eq) where
      -- a look-up after a removal
      pub lookup-without : (b q : K) (es : List (K × X)) → IsDistinct eq (keys_of es) → lookup (eq q) (remove_entry (eq b) es) ≡ cond (eq b q) None (lookup (eq q) es)
      lookup-without b q es h = lookup-remove_entry laws (eq b) (λ x y passes. laws.congr b x y passes) q es h

      -- what was taken out isn't found
      pub lookup-without_same : (b : K) (es : List (K × X)) → IsDistinct eq (keys_of es) → lookup (eq b) (remove_entry (eq b) es) ≡ None
      lookup-without_same b es h = lookup-without b b es h ∙ (rw (laws.refl b))

      -- no key stands twice where one is moved to the front
      pub IsDistinct-front : (b : K) (n : ℕ) (es : List (K × X)) → IsDistinct eq (keys_of es) → IsDistinct eq (b ∷ keys_of (take n (remove_entry (eq b) es)))
      unfolding IsDistinct
      IsDistinct-front b n es h = (
        all_keys-take (λ k. eq b k ≡ false) n (remove_entry (eq b) es) (Lacks-from_lookup (eq b) (remove_entry (eq b) es) (lookup-without_same b es h)),
        IsDistinct-take n (remove_entry (eq b) es) (IsDistinct-remove_entry (eq b) es h),
      )

      -- another key that isn't there isn't there then
      pub lookup-front : (b q : K) (v : X) (n : ℕ) (es : List (K × X)) → eq q b ≡ false → lookup (eq q) es ≡ None → lookup (eq q) ((b, v) ∷ take n (remove_entry (eq b) es)) ≡ None
      lookup-front b q v n es other none = lookup-lacks (eq q) ((b, v) ∷ take n (remove_entry (eq b) es))
          (other, all_keys-take (λ k. eq q k ≡ false) n (remove_entry (eq b) es) (all_keys-remove (λ k. eq q k ≡ false) (eq b) es (Lacks-from_lookup (eq q) es none)))

      -- no key stands twice where one that wasn't there goes last
      pub IsDistinct-keys_push : (b : K) (v : X) (es : List (K × X)) → IsDistinct eq (keys_of es) → lookup (eq b) es ≡ None → IsDistinct eq (keys_of (es ++ (b, v) ∷ []))
      IsDistinct-keys_push b v es h none =
          let absent : list_any (eq b) (keys_of es) ≡ false = sym (is_some-lookup (eq b) es) ∙ ap is_some none in
          subst (IsDistinct eq) (sym (keys_of-push es (b, v))) (IsDistinct-push laws (keys_of es) b h absent)
