-- No attention waits twice.
use Rattle.std.proofs.Common.{◌≡◌, ℕ, suc, ◌≤◌, ◌==◌, Bool, true, false, ◌||◌, ◌&&◌, not, List, [], ◌∷◌, ◌++◌, length, drop, filter, refl, ap, ◌∙◌, arith, IsTrue, cond}
use Rattle.std.proofs.lemmas.Bool.{not-true, eqb-true, and_parts, or_parts}
use Rattle.std.proofs.lemmas.Bool.Decides.{nat_tests}
use Rattle.sense_data.specs.declared.attention.Attention.{Attention}
use Rattle.sense_data.specs.Attentions.{AreAmong, attention, same_attention, waits_in, with_attention, none_twice, all_among}

-- which of two numbers stands first doesn't matter, nor which of two attentions
eqb-sym : (x y : ℕ) → (x == y) ≡ (y == x)
eqb-sym x y = grind (arith, nat_tests)

same-sym : (a b : Attention) → same_attention a b ≡ same_attention b a
same-sym a b = let asc = eqb-sym a.asc b.asc in let ascq = eqb-sym a.ascq b.ascq in cc

-- two that are the same are equal
same-is : (a b : Attention) → same_attention a b ≡ true → a ≡ b
same-is a b h =
    let asc : a.asc ≡ b.asc = eqb-true a.asc b.asc (and_parts (a.asc == b.asc) (a.ascq == b.ascq) h).0 in
    let ascq : a.ascq ≡ b.ascq = eqb-true a.ascq b.ascq (and_parts (a.asc == b.asc) (a.ascq == b.ascq) h).1 in
    let same : attention a.asc a.ascq ≡ attention b.asc b.ascq = rw (asc, ascq) in
    same

-- an attention that doesn't wait, and isn't the one added, doesn't wait then
waits_in-push : (a b : Attention) (xs : List Attention) → waits_in a xs ≡ false → same_attention b a ≡ false → waits_in a (xs ++ b ∷ []) ≡ false
waits_in-push a b [] none other = cc
waits_in-push a b (x ∷ xs) none other =
    let here = (or_parts (same_attention x a) (waits_in a xs) none).0 in
    let rest = waits_in-push a b xs (or_parts (same_attention x a) (waits_in a xs) none).1 other in
    cc

-- it stays so where one is added that doesn't wait
pub none_twice-push : (a : Attention) (xs : List Attention) → waits_in a xs ≡ false → IsTrue (none_twice xs) → IsTrue (none_twice (xs ++ a ∷ []))
none_twice-push a [] new once = refl
none_twice-push a (x ∷ xs) new once =
    let other = same-sym a x ∙ (or_parts (same_attention x a) (waits_in a xs) new).0 in
    let front = not-true _ (and_parts (not (waits_in x xs)) (none_twice xs) once).0 in
    let first = waits_in-push x a xs front other in
    let rest = none_twice-push a xs (or_parts (same_attention x a) (waits_in a xs) new).1 (and_parts (not (waits_in x xs)) (none_twice xs) once).1 in
    cc

-- those of a list that aren't this one
without : Attention → List Attention → List Attention
without x known = filter (λ b. not (same_attention b x)) known

-- one more in front, whether it is y and whether it is x
waits_in-without-cons : (x y b : Attention) (rest : List Attention) (is_y is_x : Bool)
    → same_attention b y ≡ is_y → same_attention b x ≡ is_x → same_attention y x ≡ false
    → is_y || waits_in y rest ≡ true → (waits_in y rest ≡ true → waits_in y (without x rest) ≡ true)
    → waits_in y (cond (not is_x) (b ∷ without x rest) (without x rest)) ≡ true
waits_in-without-cons x y b rest true true at_y at_x apart here more =
    let same : b ≡ y = same-is b y at_y in
    let e : same_attention b x ≡ same_attention y x = ap (λ t. same_attention t x) same in
    cc
waits_in-without-cons x y b rest true false at_y at_x apart here more = cc
waits_in-without-cons x y b rest false true at_y at_x apart here more = more here
waits_in-without-cons x y b rest false false at_y at_x apart here more = let h = more here in cc

-- another one that waits still waits where this one is left out
waits_in-without : (x y : Attention) (known : List Attention) → same_attention y x ≡ false → waits_in y known ≡ true → waits_in y (without x known) ≡ true
unfolding without
waits_in-without x y [] apart here = here
waits_in-without x y (b ∷ rest) apart here =
    waits_in-without-cons x y b rest (same_attention b y) (same_attention b x) refl refl apart here (λ h. waits_in-without x y rest apart h)

-- those behind this one, which waits once, are among the others
all_among-without : (x : Attention) (known xs : List Attention) → waits_in x xs ≡ false → all_among known xs ≡ true → all_among (without x known) xs ≡ true
all_among-without x known [] new among = refl
all_among-without x known (y ∷ xs) new among =
    let apart = (or_parts (same_attention y x) (waits_in x xs) new).0 in
    let first = waits_in-without x y known apart (and_parts (waits_in y known) (all_among known xs) among).0 in
    let rest = all_among-without x known xs (or_parts (same_attention y x) (waits_in x xs) new).1 (and_parts (waits_in y known) (all_among known xs) among).1 in
    cc

-- leaving one out makes no list longer
length-without-le : (x : Attention) (known : List Attention) → length (without x known) ≤ length known
unfolding without
length-without-le x [] = omega arith
length-without-le x (b ∷ rest) =
    let fewer = length-without-le x rest in
    elim (same_attention b x) as (λ t. length (cond (not t) (b ∷ without x rest) (without x rest)) ≤ suc (length rest)) [ true ↦ omega arith | false ↦ omega arith ]

-- one more in front, whether it is x
shorter : (x b : Attention) (rest : List Attention) (is_x : Bool) → is_x || waits_in x rest ≡ true → length (without x rest) ≤ length rest
    → (waits_in x rest ≡ true → suc (length (without x rest)) ≤ length rest)
    → suc (length (cond (not is_x) (b ∷ without x rest) (without x rest))) ≤ suc (length rest)
shorter x b rest true here fewer more = omega arith
shorter x b rest false here fewer more = let h = more here in omega arith

-- leaving out one that is there makes a list shorter
length-without : (x : Attention) (known : List Attention) → waits_in x known ≡ true → suc (length (without x known)) ≤ length known
unfolding without
length-without x [] here = cc
length-without x (b ∷ rest) here =
    shorter x b rest (same_attention b x) here (length-without-le x rest) (λ h. length-without x rest h)

-- where none waits twice and each is among these, no more wait than these
pub length-among : (known attentions : List Attention) → IsTrue (none_twice attentions) → IsTrue (all_among known attentions) → length attentions ≤ length known
length-among known [] once among = omega arith
length-among known (x ∷ xs) once among =
    let shorter = length-without x known (and_parts (waits_in x known) (all_among known xs) among).0 in
    let new = not-true (waits_in x xs) (and_parts (not (waits_in x xs)) (none_twice xs) once).0 in
    let kept = all_among-without x known xs new (and_parts (waits_in x known) (all_among known xs) among).1 in
    let rest = length-among (without x known) xs (and_parts (not (waits_in x xs)) (none_twice xs) once).1 kept in
    omega arith

and_both : (x y : Bool) → x ≡ true → y ≡ true → (x && y) ≡ true
and_both true y h k = k
and_both false y h k = h

-- each is among these still where one of these stands at the end
all_among-push : (known : List Attention) (a : Attention) (xs : List Attention) → IsTrue (all_among known xs) → IsTrue (waits_in a known)
    → IsTrue (all_among known (xs ++ a ∷ []))
all_among-push known a [] all here = and_both (waits_in a known) true here refl
all_among-push known a (x ∷ xs) all here =
    let parts = and_parts (waits_in x known) (all_among known xs) all in
    and_both (waits_in x known) (all_among known (xs ++ a ∷ [])) parts.0 (all_among-push known a xs parts.1 here)

-- by whether it waits already
among-with : (waits : Bool) (known : List Attention) (a : Attention) (xs : List Attention) → waits_in a xs ≡ waits → IsTrue (waits_in a known)
    → AreAmong known xs → AreAmong known (cond waits xs (xs ++ a ∷ []))
among-with true known a xs at is among = among
among-with false known a xs at is among = (none_twice-push a xs at among.0, all_among-push known a xs among.1 is)

-- without the first
among-rest : (known xs : List Attention) → AreAmong known xs → AreAmong known (drop 1 xs)
among-rest known [] among = among
among-rest known (x ∷ xs) among = ((and_parts (not (waits_in x xs)) (none_twice xs) among.0).1, (and_parts (waits_in x known) (all_among known xs) among.1).1)

-- where none waits twice and each is among these, so it is with one of these raised, and without the first
pub among-stay : (known : List Attention) (a : Attention) (xs : List Attention) → IsTrue (waits_in a known) → AreAmong known xs
    → AreAmong known (with_attention a xs) × AreAmong known (drop 1 xs)
among-stay known a xs is among = (among-with (waits_in a xs) known a xs refl is among, among-rest known xs among)
