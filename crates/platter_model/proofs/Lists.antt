-- Items of lists by their places.
use Rattle.std.proofs.Common.{◌≡◌, ℕ, zero, suc, ◌<◌, List, [], ◌∷◌, ◌++◌, length, take, Some, ◌≢◌, ◌⊎◌, inl, inr, sym, slice_set, set, get_or, map, drop, ◌+◌, ℤ, pos, add-one, subst, refl, ap, arith}
use Rattle.std.specs.List.{slice_get}
use Rattle.std.proofs.lemmas.Option.{slice_get_read}

-- an item stays where it is when others come behind
pub slice_get-left : {X : Type 0} (xs ys : List X) (k : ℕ) → k < length xs → slice_get (xs ++ ys) k ≡ slice_get xs k
slice_get-left [] ys k below = absurd (omega arith)
slice_get-left (x ∷ xs) ys zero below = refl
slice_get-left (x ∷ xs) ys (suc k) below = slice_get-left xs ys k (omega arith)

-- the item that comes last
pub slice_get-last : {X : Type 0} (xs : List X) (y : X) → slice_get (xs ++ y ∷ []) (length xs) ≡ Some y
slice_get-last [] y = refl
slice_get-last (x ∷ xs) y = slice_get-last xs y

-- each place below the length has an item
pub item_at : {X : Type 0} (xs : List X) (k : ℕ) → k < length xs → (x : X) × (slice_get xs k ≡ Some x)
item_at [] k below = absurd (omega arith)
item_at (x ∷ xs) zero below = (x, refl)
item_at (x ∷ xs) (suc k) below = item_at xs k (omega arith)

-- one item more
pub take-next : {X : Type 0} (xs : List X) (k : ℕ) (x : X) → slice_get xs k ≡ Some x → take (suc k) xs ≡ take k xs ++ x ∷ []
take-next [] k x is = cc
take-next (y ∷ ys) zero x is = let same : y ≡ x = cc in ap (λ z. z ∷ []) same
take-next (y ∷ ys) (suc k) x is = ap (λ zs. y ∷ zs) (take-next ys k x is)

-- one item more is one more
pub length-push : {X : Type 0} (xs : List X) (y : X) → length (xs ++ y ∷ []) ≡ suc (length xs)
length-push [] y = refl
length-push (x ∷ xs) y = ap suc (length-push xs y)

-- what was set is there, and the others are as they were
pub slice_get-set_same : {X : Type 0} (xs : List X) (k : ℕ) (x : X) → k < length xs → slice_get (slice_set xs k x) k ≡ Some x
slice_get-set_same [] k x below = absurd (omega arith)
slice_get-set_same (y ∷ ys) zero x below = refl
slice_get-set_same (y ∷ ys) (suc k) x below = slice_get-set_same ys k x (omega arith)

pub slice_get-set_other : {X : Type 0} (xs : List X) (k j : ℕ) (x : X) → j ≢ k → slice_get (slice_set xs k x) j ≡ slice_get xs j
slice_get-set_other [] k j x other = refl
slice_get-set_other (y ∷ ys) zero zero x other = absurd (other refl)
slice_get-set_other (y ∷ ys) zero (suc j) x other = refl
slice_get-set_other (y ∷ ys) (suc k) zero x other = refl
slice_get-set_other (y ∷ ys) (suc k) (suc j) x other = slice_get-set_other ys k j x (λ same. other (ap suc same))

-- an item of a longer list is one of the shorter, or the last
pub slice_get-push_cases : {X : Type 0} (xs : List X) (y : X) (k : ℕ) (x : X) → slice_get (xs ++ y ∷ []) k ≡ Some x
    → (slice_get xs k ≡ Some x) ⊎ ((k ≡ length xs) × (x ≡ y))
slice_get-push_cases [] y zero x is = let same : y ≡ x = cc in inr (refl, sym same)
slice_get-push_cases [] y (suc k) x is = let never : ⊥ = cc in absurd never
slice_get-push_cases (z ∷ xs) y zero x is = inl is
slice_get-push_cases (z ∷ xs) y (suc k) x is =
    elim (slice_get-push_cases xs y k x is) [ inl before ↦ inl before | inr last ↦ inr (ap suc last.0, last.1) ]

-- one item more of a list is changed by a function, in place
change_at : (f : ℤ → ℤ) (xs : List ℤ) (i : ℕ) (x : ℤ) → i < length xs → x ≡ f (get_or (map f (take i xs) ++ drop i xs) i (pos 0))
    → set (map f (take i xs) ++ drop i xs) i x ≡ map f (take (suc i) xs) ++ drop (suc i) xs
change_at f [] i x below is = absurd (omega arith)
change_at f (y ∷ ys) zero x below is = ap (λ z. z ∷ ys) is
change_at f (y ∷ ys) (suc i) x below is = ap (λ zs. f y ∷ zs) (change_at f ys i x (omega arith) is)

pub change_next : (f : ℤ → ℤ) (xs now : List ℤ) (i : ℕ) (x : ℤ) → now ≡ map f (take i xs) ++ drop i xs → i < length xs → x ≡ f (get_or now i (pos 0))
    → set now i x ≡ map f (take (i + 1) xs) ++ drop (i + 1) xs
change_next f xs now i x so_far below is =
    rw add-one (let P : List ℤ → Type 0 = λ zs. x ≡ f (get_or zs i (pos 0)) → set zs i x ≡ map f (take (suc i) xs) ++ drop (suc i) xs in subst P (sym so_far) (change_at f xs i x below) is)

-- an item that was read is there
pub item_got : {X : Type 0} (xs ys : List X) (k : ℕ) (x : X) → ys ≡ xs → k < length ys → x ≡ get_or ys k x → slice_get xs k ≡ Some x
item_got xs ys k x same below is = let P : List _ → Type 0 = λ zs. slice_get zs k ≡ Some x in subst P same (slice_get_read ys (length ys) k x refl below is)

-- the items before the last
pub take-push : {X : Type 0} (xs : List X) (y : X) → take (length xs) (xs ++ y ∷ []) ≡ xs
take-push [] y = refl
take-push (x ∷ xs) y = ap (λ zs. x ∷ zs) (take-push xs y)
