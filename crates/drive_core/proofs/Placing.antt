-- The commands that are in, after a change of one.
use Rattle.std.proofs.Common.{◌≡◌, ℕ, true, not, List, Option, Some, None, refl, sym, ap, ◌∙◌, subst, eqb, set, get_or}
use Rattle.std.specs.Prelude.{position, filter, IsSomeAnd, IsTrue}
use Rattle.std.specs.Option.{option_map, option_and_then}
use Rattle.std.proofs.lemmas.Bool.{eqb-true}
use Rattle.std.proofs.lemmas.Option.{slice_get-get_or}
use Rattle.std.proofs.lemmas.List.Quantifiers.{position-Some}
use Rattle.disk_base.specs.declared.command.DataOut.{DataOut}
use Rattle.command_engine.specs.declared.answer.Answer.{Answer}
use Rattle.command_engine.specs.Course.{Course}
use Rattle.command_engine.specs.Answers.{fits}
use Rattle.drive_core.specs.declared.accepted.Accepted.{Accepted}
use Rattle.drive_core.specs.declared.accepted.Errand.{Errand}
use Rattle.drive_core.specs.Accepting.{is_numbered, accepted_of, under_way, errand_of, Replaces, Drops}
use Rattle.drive_scene.proofs.Keyed.{find-dropped_own, find-dropped_other, found_at, found_nowhere, find-set_own, find-set_other}

-- the command at a place
pub there : (xs : List Accepted) (c i : ℕ) (a d : Accepted) → position (is_numbered c) xs ≡ Some i → a ≡ get_or xs i d → accepted_of xs c ≡ Some a
there xs c i a d at is =
    let place = found_at (λ (x : Accepted). x.c) c i xs at in
    place.1 ∙ (slice_get-get_or xs i d place.0 ∙ ap Some (sym is))

pub nowhere : (xs : List Accepted) (c : ℕ) → position (is_numbered c) xs ≡ None → accepted_of xs c ≡ None
nowhere xs c at = found_nowhere (λ (x : Accepted). x.c) c xs at

-- its number
pub numbered : (xs : List Accepted) (c i : ℕ) (a d : Accepted) → position (is_numbered c) xs ≡ Some i → a ≡ get_or xs i d → a.c ≡ c
numbered xs c i a d at is =
    eqb-true a.c c (subst (λ (x : Accepted). is_numbered c x ≡ true) (sym is) (position-Some (is_numbered c) xs i d at).1)

-- another in its place
pub replaces : (xs : List Accepted) (c i : ℕ) (y : Accepted) → position (is_numbered c) xs ≡ Some i → y.c ≡ c → Replaces xs (set xs i y) c y
replaces xs c i y at is = record {
  own = find-set_own (λ (x : Accepted). x.c) c i xs y at is;
  others = λ q other. find-set_other (λ (x : Accepted). x.c) c q i xs y at is other;
}

pub drops : (xs : List Accepted) (c : ℕ) → Drops xs (filter (λ a. not (eqb a.c c)) xs) c
drops xs c = record {
  own = find-dropped_own (λ (x : Accepted). x.c) c xs;
  others = λ q other. find-dropped_other (λ (x : Accepted). x.c) c q xs other;
}

-- the same command, by its number and by its place
pub same_there : (xs : List Accepted) (c i : ℕ) (b a : Accepted) → position (is_numbered c) xs ≡ Some i → b ≡ get_or xs i b → accepted_of xs c ≡ Some a → b ≡ a
same_there xs c i b a at is is_in = let found : accepted_of xs c ≡ Some b = there xs c i b b at is in cc

-- a command is put back with other data or other work
pub put_back : (xs : List Accepted) (c i : ℕ) (b a : Accepted) (sent given : DataOut) (work next : Option Course) → position (is_numbered c) xs ≡ Some i
    → b ≡ get_or xs i b → accepted_of xs c ≡ Some a → sent ≡ given → work ≡ next
    → Replaces xs (set xs i (record b { sent = sent; work = work })) c (record a { sent = given; work = next })
put_back xs c i b a sent given work next at is is_in sent_is work_is =
    let same : b ≡ a = same_there xs c i b a at is is_in in
    let P : Accepted → Type 0 = λ y. Replaces xs (set xs i (record b { sent = sent; work = work })) c y in
    let to : record b { sent = sent; work = work } ≡ record a { sent = given; work = next } =
    λ j. record { c = (same j).c; cdb = (same j).cdb; sent = sent_is j; work = work_is j } in
    subst P to (replaces xs c i (record b { sent = sent; work = work }) at (numbered xs c i b b at is))

-- no command is there
pub absent : {P : Type 0} (xs : List Accepted) (c : ℕ) (a : Accepted) → position (is_numbered c) xs ≡ None → accepted_of xs c ≡ Some a → P
absent xs c a at is_in = let none : accepted_of xs c ≡ None = nowhere xs c at in absurd (cc)

-- what a command needs
pub errand-there : (xs : List Accepted) (c i : ℕ) (d : Accepted) (e : Errand) (w : Course) → position (is_numbered c) xs ≡ Some i
    → (get_or xs i d).work ≡ Some w → e ≡ errand_of w → Some e ≡ option_map errand_of (under_way xs c)
errand-there xs c i d e w at works of =
    ap Some of ∙ sym (ap (λ (o : Option Accepted). option_map errand_of (option_and_then (λ x. x.work) o)) (there xs c i (get_or xs i d) d at refl) ∙ ap (option_map errand_of) works)

pub errand-waiting : (xs : List Accepted) (c i : ℕ) (d : Accepted) → position (is_numbered c) xs ≡ Some i
    → (get_or xs i d).work ≡ None → None ≡ option_map errand_of (under_way xs c)
errand-waiting xs c i d at waits =
    sym (ap (λ (o : Option Accepted). option_map errand_of (option_and_then (λ x. x.work) o)) (there xs c i (get_or xs i d) d at refl) ∙ ap (option_map errand_of) waits)

pub errand-nowhere : (xs : List Accepted) (c : ℕ) → position (is_numbered c) xs ≡ None → None ≡ option_map errand_of (under_way xs c)
errand-nowhere xs c at = sym (ap (λ (o : Option Accepted). option_map errand_of (option_and_then (λ x. x.work) o)) (nowhere xs c at))

-- where a command stands
pub under_way-there : (xs : List Accepted) (c i : ℕ) (b : Accepted) → position (is_numbered c) xs ≡ Some i → b ≡ get_or xs i b → under_way xs c ≡ b.work
under_way-there xs c i b at is = ap (λ (o : Option Accepted). option_and_then (λ x. x.work) o) (there xs c i b b at is)

pub under_way-nowhere : (xs : List Accepted) (c : ℕ) → position (is_numbered c) xs ≡ None → under_way xs c ≡ None
under_way-nowhere xs c at = ap (λ (o : Option Accepted). option_and_then (λ x. x.work) o) (nowhere xs c at)

-- an answer that fits is to a command that is under way
pub fits-there : (o : Option Course) (w : Course) (answer : Answer) → o ≡ Some w → IsSomeAnd o (λ v. IsTrue (fits v answer)) → IsTrue (fits w answer)
fits-there None w answer is fit = absurd fit
fits-there (Some v) w answer is fit = let same : v ≡ w = cc in subst (λ (u : Course). IsTrue (fits u answer)) same fit

pub fits-nowhere : (o : Option Course) (answer : Answer) → o ≡ None → IsSomeAnd o (λ v. IsTrue (fits v answer)) → ⊥
fits-nowhere None answer is fit = fit
fits-nowhere (Some v) answer is fit = cc

-- a place, by what the call that looks for it says
pub placed : (xs ys : List Accepted) (c : ℕ) (r o : Option ℕ) → ys ≡ xs → r ≡ position (is_numbered c) ys → r ≡ o → position (is_numbered c) xs ≡ o
placed xs ys c r o same is at = ap (λ (zs : List Accepted). position (is_numbered c) zs) (sym same) ∙ (sym is ∙ at)

pub begins : (xs : List Accepted) (c i : ℕ) (b a : Accepted) (work : Option Course) → position (is_numbered c) xs ≡ Some i → b ≡ get_or xs i b
    → accepted_of xs c ≡ Some a → Replaces xs (set xs i (record b { work = work })) c (record a { work = work })
begins xs c i b a work at is is_in =
    put_back xs c i b a b.sent a.sent work work at is is_in (ap (λ (x : Accepted). x.sent) (same_there xs c i b a at is is_in)) refl

pub goes_on : (xs : List Accepted) (c i : ℕ) (b a : Accepted) (work next : Option Course) → position (is_numbered c) xs ≡ Some i → b ≡ get_or xs i b
    → accepted_of xs c ≡ Some a → work ≡ next → Replaces xs (set xs i (record b { work = work })) c (record a { work = next })
goes_on xs c i b a work next at is is_in work_is =
    put_back xs c i b a b.sent a.sent work next at is is_in (ap (λ (x : Accepted). x.sent) (same_there xs c i b a at is is_in)) work_is

pub gives_up_data : (xs : List Accepted) (c i : ℕ) (b a : Accepted) (sent given : DataOut) → position (is_numbered c) xs ≡ Some i → b ≡ get_or xs i b
    → accepted_of xs c ≡ Some a → sent ≡ given → Replaces xs (set xs i (record b { sent = sent })) c (record a { sent = given })
gives_up_data xs c i b a sent given at is is_in sent_is =
    put_back xs c i b a sent given b.work a.work at is is_in sent_is (ap (λ (x : Accepted). x.work) (same_there xs c i b a at is is_in))
