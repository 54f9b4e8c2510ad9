-- Samples that are zero stay zero where nothing is added.
use Rattle.std.proofs.Common.{◌≡◌, ℕ, zero, suc, ◌+◌, ◌-◌, Bool, true, false, not, ◌&&◌, ◌||◌, List, [], ◌∷◌, ◌++◌, map, take, drop, replicate, ℤ, pos, Option, None, refl, sym, ◌∙◌, ap, subst, arith, append_assoc}
use Rattle.std.specs.List.{list_all}
use Rattle.std.specs.Prelude.{if◌then◌else◌}
use Rattle.disk_base.specs.declared.payload.Payload.{Payload}
use Rattle.channel_path.specs.Sector.{ReadsAs}
use Rattle.channel_path.specs.Laws.{ZerosReadAsNothing}
use Rattle.platter_model.specs.declared.damage.Attempt.{Attempt}
use Rattle.platter_model.specs.declared.damage.Effect.{Effect}
use Rattle.platter_model.specs.declared.damage.Effect.TheVariants.{Drop, Add}
use Rattle.platter_model.specs.Sector.{Flaw, harm, scar, meant, flaws}
use Rattle.platter_model.specs.Given.{applies, affected, changed, under_flaw, under, IsUnflawed}
use Rattle.platter_model.specs.Laws.{is_drop, adds_nothing, NothingIsRead}

-- each sample is zero
data AreZero : List ℤ → Type 0 where
  none : AreZero []
  more : (xs : List ℤ) → AreZero xs → AreZero (pos 0 ∷ xs)

zeros : (n : ℕ) → AreZero (replicate n (pos 0))
zeros zero = none
zeros (suc n) = more (replicate n (pos 0)) (zeros n)

-- dropping some of a list of zeros changes nothing
dropped_front : (count : ℕ) (xs : List ℤ) → AreZero xs → map (affected Drop) (take count xs) ++ drop count xs ≡ xs
dropped_front zero xs all = refl
dropped_front (suc count) [] all = refl
dropped_front (suc count) (x ∷ xs) (more ys all) = ap (λ zs. pos 0 ∷ zs) (dropped_front count xs all)

dropped_same : (first count : ℕ) (xs : List ℤ) → AreZero xs → take first xs ++ (map (affected Drop) (take count (drop first xs)) ++ drop count (drop first xs)) ≡ xs
dropped_same zero count xs all = dropped_front count xs all
dropped_same (suc first) count [] all = dropped_front count [] all
dropped_same (suc first) count (x ∷ xs) (more ys all) = ap (λ zs. pos 0 ∷ zs) (dropped_same first count xs all)

abbrev no_samples : List ℤ
no_samples = []

drop_none : (count : ℕ) → drop count no_samples ≡ no_samples
drop_none zero = refl
drop_none (suc count) = refl

drop_parts : (a b n : ℕ) (xs : List ℤ) → n ≡ a + b → drop n xs ≡ drop b (drop a xs)
drop_parts zero b n xs is = let same : n ≡ b = omega arith in ap (λ k. drop k xs) same
drop_parts (suc a) b zero xs is = absurd (omega arith)
drop_parts (suc a) b (suc n) [] is = sym (drop_none b)
drop_parts (suc a) b (suc n) (x ∷ xs) is = drop_parts a b n xs (omega arith)

changed_same : (first count : ℕ) (xs : List ℤ) → AreZero xs → changed Drop first count xs ≡ xs
changed_same first count xs all =
    let long : first + count - first ≡ count = omega arith in
    rw (long, drop_parts first count (first + count) xs refl, append_assoc (take first xs) (map (affected Drop) (take count (drop first xs))) (drop count (drop first xs)))
    (dropped_same first count xs all)

-- a flaw that adds nothing changes no zeros
harm_same : (applied : Bool) (effect : Effect) (first count : ℕ) (xs : List ℤ) → AreZero xs → (not applied || is_drop effect) ≡ true
    → (if applied then changed effect first count xs else xs) ≡ xs
harm_same false effect first count xs all nothing = refl
harm_same true Drop first count xs all nothing = changed_same first count xs all
harm_same true (Add d) first count xs all nothing = let never : ⊥ = cc in absurd never

flaw_same : (attempt : Attempt) (flaw : Flaw) (xs : List ℤ) → AreZero xs → adds_nothing attempt flaw ≡ true → under_flaw attempt xs flaw ≡ xs
flaw_same attempt (harm damage) xs all nothing = harm_same (applies damage.lasting attempt) damage.effect damage.first damage.count xs all nothing
flaw_same attempt (scar dropped) xs all nothing = changed_same 0 dropped xs all

first_of_both : (a b : Bool) → (a && b) ≡ true → a ≡ true
first_of_both true b both = refl
first_of_both false b both = both

second_of_both : (a b : Bool) → (a && b) ≡ true → b ≡ true
second_of_both true b both = both
second_of_both false b both = let never : ⊥ = cc in absurd never

under_same : (attempt : Attempt) (fs : List Flaw) (xs : List ℤ) → AreZero xs → list_all (adds_nothing attempt) fs ≡ true → under attempt fs xs ≡ xs
under_same attempt [] xs all nothing = refl
under_same attempt (f ∷ fs) xs all nothing =
    let same : under_flaw attempt xs f ≡ xs = flaw_same attempt f xs all (first_of_both (adds_nothing attempt f) (list_all (adds_nothing attempt) fs) nothing) in
    ap (λ ys. under attempt fs ys) same ∙ under_same attempt fs xs all (second_of_both (adds_nothing attempt f) (list_all (adds_nothing attempt) fs) nothing)

unflawed_none : (m : Option Payload) (xs : List ℤ) → m ≡ None → IsUnflawed m xs → xs ≡ replicate 9478 (pos 0)
unflawed_none m xs absent is = let P : Option Payload → Type 0 = λ o. IsUnflawed o xs in subst P absent is

pub nothing_is_read : ZerosReadAsNothing → NothingIsRead
nothing_is_read silent ops p attempt samples how payload absent nothing given reads =
    let zero_samples : given.unflawed ≡ replicate 9478 (pos 0) = unflawed_none (meant p ops) given.unflawed absent given.written in
    let same : samples ≡ replicate 9478 (pos 0) =
    given.flawed ∙ (ap (λ xs. under attempt (flaws p ops) xs) zero_samples ∙ under_same attempt (flaws p ops) (replicate 9478 (pos 0)) (zeros 9478) nothing) in
    let P : List ℤ → Type 0 = λ xs. ReadsAs p xs how payload in
    silent p how payload (subst P same reads)
