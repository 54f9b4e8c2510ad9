-- A rule that holds of each item of a list, by recursion.
use Rattle.std.proofs.Common.{◌≡◌, refl, subst, ℕ, zero, suc, Bool, true, false, List, [], ◌∷◌, ◌++◌, map, cond, Some}
use Rattle.std.specs.Prelude.{filter, slice_get, find}
use Rattle.script_runner.specs.Each.{Each}

module _ {A : Type 0} (P : A → Type 0) where
  pub each_append : (xs ys : List A) → Each P xs → Each P ys → Each P (xs ++ ys)
  each_append [] ys h k = k
  each_append (x ∷ xs) ys h k = (h.0, each_append xs ys h.1 k)

  -- of those that pass a test
  pub each_filter : (p : A → Bool) (xs : List A) → Each (λ x. p x ≡ true → P x) xs → Each P (filter p xs)
  each_filter p [] h = tt
  each_filter p (x ∷ xs) h =
      let go : (b : Bool) → p x ≡ b → Each P (cond b (x ∷ filter p xs) (filter p xs)) =
      λ b e. elim b as (λ v. p x ≡ v → Each P (cond v (x ∷ filter p xs) (filter p xs))) [ true ↦ λ is. (h.0 is, each_filter p xs h.1) | false ↦ λ is. each_filter p xs h.1 ] e in
      go (p x) refl

  pub each_at : (xs : List A) (k : ℕ) (x : A) → Each P xs → slice_get xs k ≡ Some x → P x
  each_at [] k x h e = absurd (cc)
  each_at (y ∷ xs) zero x h e = subst P (cc) h.0
  each_at (y ∷ xs) (suc k) x h e = each_at xs k x h.1 e

  pub each_found : (p : A → Bool) (xs : List A) (x : A) → Each P xs → find p xs ≡ Some x → P x
  each_found p [] x h e = absurd (cc)
  each_found p (y ∷ xs) x h e =
      let go : (b : Bool) → cond b (Some y) (find p xs) ≡ Some x → P x =
      λ b. elim b as (λ v. cond v (Some y) (find p xs) ≡ Some x → P x) [ true ↦ λ is. subst P (cc) h.0 | false ↦ λ is. each_found p xs x h.1 is ] in
      go (p y) e

  pub each_weaker : (Q : A → Type 0) (xs : List A) → ((x : A) → P x → Q x) → Each P xs → Each Q xs
  each_weaker Q [] w h = tt
  each_weaker Q (x ∷ xs) w h = (w x h.0, each_weaker Q xs w h.1)

pub each_map : {A B : Type 0} (f : A → B) (P : B → Type 0) (xs : List A) → Each (λ x. P (f x)) xs → Each P (map f xs)
each_map f P [] h = tt
each_map f P (x ∷ xs) h = (h.0, each_map f P xs h.1)
