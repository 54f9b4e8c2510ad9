-- Rules along lists, and along pieces of them.
use Rattle.std.proofs.Common.{◌≡◌, ◌∙◌, ap, sym, refl, Bool, true, List, [], ◌∷◌, ◌++◌, append_assoc}
use Rattle.std.specs.Prelude.{◌&&◌, fold}
use Rattle.disk_base.specs.Along.{all_along}
use Rattle.block_machine.proofs.Booleans.{and_assoc, and_both, both}

module _ {S T : Type 0} (step : S → T → S) where
  -- the state after both parts
  pub fold_both : (s : S) (xs ys : List T) → fold step s (xs ++ ys) ≡ fold step (fold step s xs) ys
  fold_both s [] ys = refl
  fold_both s (x ∷ xs) ys = fold_both (step s x) xs ys

  -- a test along both parts
  pub along_both : (p : S → T → Bool) (s : S) (xs ys : List T)
      → all_along step p s (xs ++ ys) ≡ (all_along step p s xs && all_along step p (fold step s xs) ys)
  along_both p s [] ys = refl
  along_both p s (x ∷ xs) ys = ap (λ (b : Bool). p s x && b) (along_both p (step s x) xs ys) ∙ sym (and_assoc (p s x) _ _)

  -- a test along the first part
  pub along_first : (p : S → T → Bool) (s : S) (xs ys : List T) → all_along step p s (xs ++ ys) ≡ true → all_along step p s xs ≡ true
  along_first p s xs ys h = (both _ _ (sym (along_both p s xs ys) ∙ h)).0

  -- a test along the second part
  pub along_second : (p : S → T → Bool) (s : S) (xs ys : List T) → all_along step p s (xs ++ ys) ≡ true → all_along step p (fold step s xs) ys ≡ true
  along_second p s xs ys h = (both _ _ (sym (along_both p s xs ys) ∙ h)).1

  -- one of two tests along a list
  pub along_left : (p q : S → T → Bool) (s : S) (xs : List T) → all_along step (λ a x. p a x && q a x) s xs ≡ true → all_along step p s xs ≡ true
  along_left p q s [] h = refl
  along_left p q s (x ∷ xs) h =
      let now = both (p s x && q s x) _ h in
      and_both (p s x) _ (both (p s x) (q s x) now.0).0 (along_left p q (step s x) xs now.1)

-- a list parted at one of its items, and the first part again
pub parted_twice : {X : Type 0} (all before between first after : List X) (x y : X) → all ≡ first ++ y ∷ after → first ≡ before ++ x ∷ between
    → all ≡ before ++ x ∷ (between ++ y ∷ after)
parted_twice all before between first after x y whole inner =
    whole ∙ ap (λ (xs : List _). xs ++ y ∷ after) inner ∙ append_assoc before (x ∷ between) (y ∷ after)
