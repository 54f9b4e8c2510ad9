-- What `retain` keeps, where no call changes its closure.
use Rattle.std.proofs.Common.{◌≡◌, ◌∙◌, refl, subst, Bool, true, false, cond, List, [], ◌∷◌, length, filter, arith}
use Rattle.std.specs.List.{items_where_true}
use Rattle.std.specs.List.Retain.{IsFiltered, ReturnsInTurn}

module _ {X : Type 0} where
  first : (b : Bool) (bs : List Bool) (x : X) (xs : List X)
      → items_where_true (b ∷ bs) (x ∷ xs) ≡ cond b (x ∷ items_where_true bs xs) (items_where_true bs xs)
  first true bs x xs = refl
  first false bs x xs = refl

module _ {X F : Type 0} (R : F → X → Bool → F → Type 0) (test : X → Bool) (f : F) (says : (x : X) (b : Bool) (g : F) → R f x b g → (b ≡ test x) × (g ≡ f)) where
  kept : (bs : List Bool) (xs : List X) (q : F) → length bs ≡ length xs → ReturnsInTurn R f bs xs q → items_where_true bs xs ≡ filter test xs
  kept [] [] q e h = refl
  kept [] (x ∷ xs) q e h = absurd (omega arith)
  kept (b ∷ bs) [] q e h = absurd h
  kept (b ∷ bs) (x ∷ xs) q e h =
      let said = says x b h.0 h.1 in
      let later = subst (λ g. ReturnsInTurn R g bs xs q) said.1 h.2 in
      let same : length bs ≡ length xs = omega arith in
      let rest = kept bs xs q same later in
      first b bs x xs ∙ (λ i. cond (said.0 i) (x ∷ rest i) (rest i))

  -- the items that pass the test
  pub filter-from_filtered : (xs ys : List X) → IsFiltered R f xs ys → ys ≡ filter test xs
  filter-from_filtered xs ys h = h.4 ∙ kept h.0 xs h.1 h.2 h.3
