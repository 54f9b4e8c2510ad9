-- Beginnings of one list.
use Rattle.std.proofs.Common.{◌≡◌, ◌⊎◌, inl, inr, ◌+◌, ◌<◌, ◌≤◌, ltb, Bool, true, false, cond, List, [], ◌∷◌, ◌++◌, length, refl, ap, sym, ◌∙◌, subst, arith, append_assoc, append-nil, length-append, ⊎_elim}
use mathlib.Core.List.{IsPrefix}
use Rattle.std.proofs.lemmas.Bool.Decides.{nat_tests}
use Rattle.turn_lock.specs.Lists.{longer, Follows}

pub prefix_self : {A : Type 0} (xs : List A) → IsPrefix xs xs
prefix_self xs = ([], append-nil xs)

pub prefix_more : {A : Type 0} (xs ys zs : List A) → IsPrefix xs ys → IsPrefix xs (ys ++ zs)
prefix_more xs ys zs p = (p.0 ++ zs, sym (append_assoc xs p.0 zs) ∙ ap (λ w. w ++ zs) p.1)

pub prefix_follows : {A : Type 0} (xs ys zs : List A) → IsPrefix xs ys → Follows ys zs → IsPrefix xs zs
prefix_follows xs ys zs p f = ⊎_elim (λ (e : zs ≡ ys). subst (IsPrefix xs) (sym e) p) (λ (g : (t : _) × (zs ≡ ys ++ t ∷ [])). subst (IsPrefix xs) (sym g.1) (prefix_more xs ys (g.0 ∷ []) p)) f

-- of two beginnings of one list one begins the other
pub prefix_either : {A : Type 0} (xs ys zs : List A) → IsPrefix xs zs → IsPrefix ys zs → IsPrefix xs ys ⊎ IsPrefix ys xs
prefix_either [] ys zs p q = inl (ys, refl)
prefix_either (x ∷ xs) [] zs p q = inr (x ∷ xs, refl)
prefix_either (x ∷ xs) (y ∷ ys) [] p q = absurd (cc (p.1))
prefix_either (x ∷ xs) (y ∷ ys) (z ∷ zs) p q =
    let heads : x ≡ y = cc (p.1, q.1) in
    ⊎_elim (λ (r : IsPrefix xs ys). inl (r.0, cc (heads, r.1))) (λ (r : IsPrefix ys xs). inr (r.0, cc (heads, r.1))) (prefix_either xs ys zs (p.0, cc (p.1)) (q.0, cc (q.1)))

longer_by : {A : Type 0} (b : Bool) (xs ys zs : List A) → IsPrefix xs zs → IsPrefix ys zs → IsPrefix (cond b ys xs) zs
longer_by true xs ys zs p q = q
longer_by false xs ys zs p q = p

pub prefix_longer : {A : Type 0} (xs ys zs : List A) → IsPrefix xs zs → IsPrefix ys zs → IsPrefix (longer xs ys) zs
prefix_longer xs ys zs p q = longer_by (ltb (length xs) (length ys)) xs ys zs p q

pub follows_length : {A : Type 0} (xs ys : List A) → Follows xs ys → (length ys ≡ length xs) ⊎ (length ys ≡ length xs + 1)
follows_length xs ys f = ⊎_elim (λ (e : ys ≡ xs). inl (ap length e)) (λ (g : (t : _) × (ys ≡ xs ++ t ∷ [])). inr (ap length g.1 ∙ omega (arith, length-append xs (g.0 ∷ [])))) f

pub prefix_length : {A : Type 0} (xs ys : List A) → IsPrefix xs ys → length xs ≤ length ys
prefix_length xs ys p = omega (arith, sym (ap length p.1) ∙ length-append xs p.0)

-- a beginning as long as the whole is the whole
pub prefix_whole : {A : Type 0} (xs ys : List A) → IsPrefix xs ys → length ys ≤ length xs → xs ≡ ys
prefix_whole [] [] p le = refl
prefix_whole [] (y ∷ ys) p le = absurd (omega arith)
prefix_whole (x ∷ xs) [] p le = absurd (cc (p.1))
prefix_whole (x ∷ xs) (y ∷ ys) p le = let more = prefix_whole xs ys (p.0, cc (p.1)) (omega arith) in cc (p.1, more)

longer_length_by : {A : Type 0} (b : Bool) (xs ys : List A) → ltb (length xs) (length ys) ≡ b → (length xs ≤ length (cond b ys xs)) × (length ys ≤ length (cond b ys xs))
longer_length_by true xs ys e = (grind (arith, nat_tests), omega arith)
longer_length_by false xs ys e = (omega arith, grind (arith, nat_tests))

pub longer_length : {A : Type 0} (xs ys : List A) → (length xs ≤ length (longer xs ys)) × (length ys ≤ length (longer xs ys))
longer_length xs ys = longer_length_by (ltb (length xs) (length ys)) xs ys refl

longer_begins_by : {A : Type 0} (b : Bool) (xs ys : List A) → ltb (length xs) (length ys) ≡ b → IsPrefix xs ys ⊎ IsPrefix ys xs → IsPrefix xs (cond b ys xs) × IsPrefix ys (cond b ys xs)
longer_begins_by true xs ys e o =
    let lt : length xs < length ys = grind (arith, nat_tests) in
    (⊎_elim (λ (p : IsPrefix xs ys). p) (λ (q : IsPrefix ys xs). absurd (omega (arith, prefix_length ys xs q))) o, prefix_self ys)
longer_begins_by false xs ys e o =
    let le : length ys ≤ length xs = grind (arith, nat_tests) in
    (prefix_self xs, ⊎_elim (λ (p : IsPrefix xs ys). subst (λ (l : List _). IsPrefix l xs) (prefix_whole xs ys p le) (prefix_self xs)) (λ (q : IsPrefix ys xs). q) o)

-- of two lists of which one begins the other, both begin the longer
pub longer_begins : {A : Type 0} (xs ys : List A) → IsPrefix xs ys ⊎ IsPrefix ys xs → IsPrefix xs (longer xs ys) × IsPrefix ys (longer xs ys)
longer_begins xs ys o = longer_begins_by (ltb (length xs) (length ys)) xs ys refl o
