-- Parts of a list between two places.
use Rattle.std.proofs.Common.{◌≡◌, ◌∙◌, ap, sym, refl, ℕ, zero, suc, ◌+◌, ◌-◌, ◌<◌, ◌≤◌, List, [], ◌∷◌, ◌++◌, length, get_or, drop, take, arith}
use Rattle.std.specs.Prelude.{slice_range}
use Rattle.std.proofs.lemmas.List.{drop-drop, get_or-drop, length-drop, take_more}

module _ {X : Type 0} where
  -- what stands behind the first of those that are left at a place
  pub drop_next : (xs : List X) (a : ℕ) (x : X) (rest : List X) → drop a xs ≡ x ∷ rest → drop (a + 1) xs ≡ rest
  drop_next xs a x rest is = sym (drop-drop 1 a xs) ∙ ap (drop 1) is

  pub range_front : (xs : List X) (a b : ℕ) (x : X) (rest : List X) → a < b → drop a xs ≡ x ∷ rest
      → slice_range xs a b ≡ x ∷ slice_range xs (a + 1) b
  range_front xs a b x rest less is =
      let count : b - a ≡ suc (b - (a + 1)) = omega arith in
      ap (λ n. take n (drop a xs)) count ∙ ap (take (suc (b - (a + 1)))) is
      ∙ ap (λ l. x ∷ take (b - (a + 1)) l) (sym (drop_next xs a x rest is))

  pub range_none : (xs : List X) (a b : ℕ) → b ≤ a → slice_range xs a b ≡ []
  range_none xs a b le = let count : b - a ≡ 0 = omega arith in ap (λ n. take n (drop a xs)) count

  pub range_more : (xs : List X) (a b : ℕ) (d : X) → a ≤ b → b < length xs
      → slice_range xs a (b + 1) ≡ slice_range xs a b ++ get_or xs b d ∷ []
  range_more xs a b d low high =
      let count : (b + 1) - a ≡ (b - a) + 1 = omega arith in
      let long : b - a < length (drop a xs) = let e = length-drop a xs in omega (arith, e) in
      let at : get_or (drop a xs) (b - a) d ≡ get_or xs b d =
      let e : a + (b - a) ≡ b = omega arith in get_or-drop a xs (b - a) d ∙ ap (λ k. get_or xs k d) e in
      ap (λ n. take n (drop a xs)) count ∙ take_more (drop a xs) (b - a) d long
      ∙ ap (λ y. take (b - a) (drop a xs) ++ y ∷ []) at

  take_nil : (k : ℕ) → take {A = X} k [] ≡ []
  take_nil zero = refl
  take_nil (suc k) = refl

  take_sum : (n m : ℕ) (xs : List X) → take (n + m) xs ≡ take n xs ++ take m (drop n xs)
  take_sum zero m xs = let e : 0 + m ≡ m = omega arith in ap (λ k. take k xs) e
  take_sum (suc n) m [] = take_nil (suc n + m) ∙ sym (take_nil m)
  take_sum (suc n) m (x ∷ xs) =
      let e : suc n + m ≡ suc (n + m) = omega arith in ap (λ k. take k (x ∷ xs)) e ∙ ap (λ l. x ∷ l) (take_sum n m xs)

  pub range_join : (xs : List X) (a b c : ℕ) → a ≤ b → b ≤ c → slice_range xs a c ≡ slice_range xs a b ++ slice_range xs b c
  range_join xs a b c low high =
      let count : c - a ≡ (b - a) + (c - b) = omega arith in
      let on : a + (b - a) ≡ b = omega arith in
      ap (λ n. take n (drop a xs)) count ∙ take_sum (b - a) (c - b) (drop a xs)
      ∙ ap (λ l. take (b - a) (drop a xs) ++ take (c - b) l) (drop-drop (b - a) a xs ∙ ap (λ k. drop k xs) on)
