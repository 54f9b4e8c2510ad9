-- Of the claims, the one by which another command is kept from a block, and what work on a command is refused for by it.
use Rattle.std.proofs.Common.{◌≡◌, ℕ, ◌+◌, ◌<◌, ◌≤◌, Bool, true, false, not, cond, eqb, ltb, List, [], ◌∷◌, ◌++◌, length, get_or, take, arith, ⊎_elim, Option, Some, None, refl, sym, ap, ◌∙◌, subst, map, filter}
use Rattle.std.specs.Prelude.{◌&&◌, find, position}
use Rattle.std.specs.List.{position_or_len}
use Rattle.std.proofs.lemmas.Bool.{cond-true, lt-ltb, eq-eqb, ne_eqb, eqb-true, cases_lt}
use Rattle.std.proofs.lemmas.List.Quantifiers.{position-Some}
use Rattle.std.proofs.lemmas.List.Sums.{position_or_len_is}
use Rattle.std.specs.Option.{option_map, option_map_or, option_and_then, is_some}
use Rattle.std.proofs.lemmas.List.{map-append, take_more, get_or-map, get_or_default}
use Rattle.disk_base.specs.declared.address.Lba.{Lba}
use Rattle.task_set.specs.declared.member.Member.{Member}
use Rattle.task_set.specs.Members.{member_of, first_forbidding, blocker_of, IsByAge}
use Rattle.block_machine.specs.declared.turn.Label.TheVariants as label
use Rattle.drive_scene.specs.declared.event.Holder.TheVariants.{Command}
use Rattle.drive_scene.specs.declared.answer.TurnAnswer.{TurnAnswer}
use Rattle.drive_scene.specs.declared.answer.TurnAnswer.TheVariants as answer
use Rattle.drive_scene.specs.Scene.{Scene}
use Rattle.drive_scene.specs.Holds.{held_block, holds, needed_block}
use Rattle.drive_scene.specs.Holds as scene
use Rattle.drive_scene.specs.Able.{held_by_other, kept_waiting, work_refused, refusal_of_work}
use Rattle.drive_scene.proofs.Walking.{member-number, member-itself, refusal-is}
use Rattle.drive_scene.specs.Evidence.{lba}
use Rattle.drive_core.proofs.Flightless.{holder_alone, kept_alone}
use Rattle.drive_core.specs.declared.accepted.Accepted.{Accepted}
use Rattle.drive_core.specs.declared.able.Claim.{Claim}
use Rattle.drive_core.specs.Accepting.{is_numbered}
use Rattle.drive_core.specs.Claims.{older_after, claim_of, claims_of, is_holder, holders_of, keeps_from, holder_besides, held_back}

-- none kept from it, whichever command it is
unheld : (t : Bool) → (not t && false) ≡ false
unheld true = refl
unheld false = refl

chosen : (t : Bool) (claim : Claim) (m : Member) (found : Option Claim) (others : Option Member) → claim.c ≡ m.task.c
    → option_map (λ (x : Claim). Command x.c) found ≡ option_map (λ (x : Member). Command x.task.c) others
    → option_map (λ (x : Claim). Command x.c) (cond t (Some claim) found) ≡ option_map (λ (x : Member). Command x.task.c) (cond t (Some m) others)
chosen true claim m found others same rest = ap (λ (n : ℕ). Some (Command n)) same
chosen false claim m found others same rest = rest

-- one more claim in front
in_front : (c : ℕ) (b : Lba) (m : Member) (needs : Option Lba) (held : Option ℕ) (claims : List Claim) (others : Option Member)
    → option_map (λ (x : Claim). Command x.c) (find (keeps_from c b) claims) ≡ option_map (λ (x : Member). Command x.task.c) others
    → option_map (λ (x : Claim). Command x.c) (find (keeps_from c b)
    (cond (is_some (option_map lba held)) (record { c = m.task.c; needs = needs; holds = option_map lba held } ∷ claims) claims))
    ≡ option_map (λ (x : Member). Command x.task.c) (cond (not (eqb m.task.c c) && option_map_or (λ (h : ℕ). eqb h b.0) held false) (Some m) others)
in_front c b m needs None claims others rest =
    rest ∙ sym (ap (λ (t : Bool). option_map (λ (x : Member). Command x.task.c) (cond t (Some m) others)) (unheld (eqb m.task.c c)))
in_front c b m needs (Some h) claims others rest =
    chosen (not (eqb m.task.c c) && eqb h b.0) (record { c = m.task.c; needs = needs; holds = Some (lba h) }) m (find (keeps_from c b) claims) others refl rest

first-holder : (s : Scene) (c : ℕ) (b : Lba) (set : List Member)
    → option_map (λ (x : Claim). Command x.c) (find (keeps_from c b) (filter is_holder (map (λ (m : Member). claim_of s m.task.c) set)))
    ≡ option_map (λ (x : Member). Command x.task.c) (find (λ (m : Member). not (eqb m.task.c c) && holds s b.0 m.task.c) set)
first-holder s c b [] = refl
first-holder s c b (m ∷ ms) =
    in_front c b m (option_map lba (needed_block s m.task.c)) (held_block s m.task.c) (filter is_holder (map (λ (x : Member). claim_of s x.task.c) ms))
    (find (λ (x : Member). not (eqb x.task.c c) && holds s b.0 x.task.c) ms) (first-holder s c b ms)

twice : (o : Option Member) → option_map (λ (x : Member). Command x.task.c) o ≡ option_map Command (option_map (λ (x : Member). x.task.c) o)
twice None = refl
twice (Some m) = refl

holder-is : (s : Scene) (c : ℕ) (b : Lba) → s.back.flights ≡ [] → holder_besides (holders_of s) c b ≡ scene.holder_besides s (label.Work c) b.0
holder-is s c b none = first-holder s c b s.hist.set
    ∙ (twice (find (λ (m : Member). not (eqb m.task.c c) && holds s b.0 m.task.c) s.hist.set) ∙ sym (holder_alone s (label.Work c) b.0 none))

-- the block that it needs
held-back-by : (s : Scene) (c : ℕ) (o : Option ℕ) → s.back.flights ≡ [] → option_and_then (λ (b : Lba). option_map (answer.Held b) (holder_besides (holders_of s) c b)) (option_map lba o)
    ≡ option_and_then (held_by_other s c) o
held-back-by s c None none = refl
held-back-by s c (Some b) none = ap (option_map (answer.Held (lba b))) (holder-is s c (lba b) none)

-- a started command is refused by the claims
pub started-refused : (s : Scene) (m : Member) (claim : Claim) (holders : List Claim) → s.back.flights ≡ [] → m.started ≡ true → claim ≡ claim_of s m.task.c
    → holders ≡ holders_of s → held_back holders claim ≡ work_refused s m.task.c m
started-refused s m claim holders none started claims all =
    (λ i. held_back (all i) (claims i))
    ∙ (held-back-by s m.task.c (needed_block s m.task.c) none
    ∙ (sym (kept_alone s m.task.c none)
    ∙ sym (ap (λ (t : Bool). cond t (kept_waiting s m.task.c) (option_map answer.Dormant (first_forbidding s.hist.set m.task))) started)))

-- one that wasn't is refused by the set
pub dormant-refused : (s : Scene) (set : List Member) (m : Member) → m.started ≡ false → set ≡ s.hist.set → member_of set m.task.c ≡ Some m
    → option_map answer.Dormant (blocker_of set m.task.c) ≡ work_refused s m.task.c m
dormant-refused s set m waits same is =
    ap (λ (o : Option Member). option_map answer.Dormant (option_and_then (λ (x : Member). cond x.started None (first_forbidding set x.task)) o)) is
    ∙ (ap (λ (t : Bool). option_map answer.Dormant (cond t None (first_forbidding set m.task))) waits
    ∙ (ap (λ (ms : List Member). option_map answer.Dormant (first_forbidding ms m.task)) same
    ∙ sym (ap (λ (t : Bool). cond t (kept_waiting s m.task.c) (option_map answer.Dormant (first_forbidding s.hist.set m.task))) waits)))

-- one more member of the set claims
pub one_more : (s : Scene) (members : List Member) (i : ℕ) (m : Member) (claim : Claim) (xs ys : List Claim) → members ≡ s.hist.set → i < length members
    → m ≡ get_or members i m → claim ≡ claim_of s m.task.c → xs ≡ map (λ (x : Member). claim_of s x.task.c) (take i s.hist.set) → ys ≡ xs ++ claim ∷ []
    → ys ≡ map (λ (x : Member). claim_of s x.task.c) (take (i + 1) s.hist.set)
one_more s members i m claim xs ys same inside is claims so_far more =
    let f : Member → Claim = λ (x : Member). claim_of s x.task.c in
    let there : m ≡ get_or s.hist.set i m = is ∙ ap (λ (ms : List Member). get_or ms i m) same in
    let within : i < length s.hist.set = subst (λ (ms : List Member). i < length ms) same inside in
    let longer : take (i + 1) s.hist.set ≡ take i s.hist.set ++ m ∷ [] =
    take_more s.hist.set i m within ∙ ap (λ (x : Member). take i s.hist.set ++ x ∷ []) (sym there) in
    more ∙ ((λ j. so_far j ++ claims j ∷ []) ∙ sym (ap (map f) longer ∙ map-append f (take i s.hist.set) (m ∷ [])))

-- so many of the commands are older than those of the set from an index on
abbrev pub IsOlder : List Accepted → List Member → ℕ → ℕ → Type 0
IsOlder commands set older i =
    (k j : ℕ) (a : Accepted) (m : Member) → k < older → i ≤ j → j < length set → (get_or commands k a).c < (get_or set j m).task.c

-- so older than the next
pub all-older : (commands slice : List Accepted) (set members : List Member) (older i : ℕ) (m : Member) → IsOlder commands set older i → slice ≡ commands
    → members ≡ set → i < length members → m ≡ get_or members i m → (k : ℕ) (a : Accepted) → k < older → (get_or slice k a).c < m.task.c
all-older commands slice set members older i m are same all inside is k a low =
    let there : m ≡ get_or set i m = is ∙ ap (λ (ms : List Member). get_or ms i m) all in
    let within : i < length set = subst (λ (ms : List Member). i < length ms) all inside in
    let less : (get_or commands k a).c < (get_or set i m).task.c = are k i a m low (omega arith) within in
    let mine : m.task.c ≡ (get_or set i m).task.c = ap (λ (x : Member). x.task.c) there in
    let its : (get_or slice k a).c ≡ (get_or commands k a).c = ap (λ (xs : List Accepted). (get_or xs k a).c) same in
    omega (arith, less, mine, its)

after-at-most : (older : ℕ) (place : Option ℕ) → older_after older place ≤ older + 1
after-at-most older None = omega arith
after-at-most older (Some p) = by (eqb p older)
  where
    by : (t : Bool) → cond t (older + 1) older ≤ older + 1
    by true = omega arith
    by false = omega arith

pub after-few : (older i : ℕ) (place : Option ℕ) (next : ℕ) → older ≤ i → next ≡ older_after older place → next ≤ i + 1
after-few older i place next few is = omega (arith, few, is, after-at-most older place)

-- one that is newly older is the one at the place
newly : (older k : ℕ) (place : Option ℕ) → older ≤ k → k < older_after older place → place ≡ Some k
newly older k None past low = absurd (omega arith)
newly older k (Some p) past low = by (eqb p older) refl low
  where
    by : (t : Bool) → eqb p older ≡ t → k < cond t (older + 1) older → Some p ≡ Some k
    by true at below = let same : p ≡ older = eqb-true p older at in let here : p ≡ k = omega (arith, same) in ap Some here
    by false at below = absurd (omega arith)

pub one-older : (commands : List Accepted) (set members : List Member) (older i : ℕ) (m : Member) (place : Option ℕ) (next : ℕ) → IsByAge set
    → IsOlder commands set older i → members ≡ set → i < length members → m ≡ get_or members i m → place ≡ position (is_numbered m.task.c) commands
    → next ≡ older_after older place → IsOlder commands set next (i + 1)
one-older commands set members older i m place next by_age are all inside is at after k j a d low past within = ⊎_elim
    (λ (old : k < older). are k j a d old (omega arith) within)
    (λ (new : older ≤ k).
    let there : m ≡ get_or set i m = is ∙ ap (λ (ms : List Member). get_or ms i m) all in
    let in_set : i < length set = subst (λ (ms : List Member). i < length ms) all inside in
    let placed : place ≡ Some k = newly older k place new (subst (λ (n : ℕ). k < n) after low) in
    let own : (get_or commands k a).c ≡ m.task.c = eqb-true (get_or commands k a).c m.task.c (position-Some (is_numbered m.task.c) commands k a (sym at ∙ placed)).1 in
    let mine : m.task.c ≡ (get_or set i d).task.c = ap (λ (x : Member). x.task.c) (there ∙ get_or_default set i m d in_set) in
    let younger : (get_or set i d).task.c < (get_or set j d).task.c = by_age i j d (omega arith) within in
    omega (arith, own, mine, younger))
    (cases_lt k older)

-- the command behind those that are older is the first of its number
pub next-placed : (commands : List Accepted) (older c : ℕ) (a : Accepted) → ((k : ℕ) (d : Accepted) → k < older → (get_or commands k d).c < c)
    → older < length commands → (get_or commands older a).c ≡ c → Some older ≡ position (is_numbered c) commands
next-placed commands older c a less inside here =
    let at : position_or_len (is_numbered c) commands ≡ older =
    position_or_len_is (is_numbered c) commands older a (omega (arith, inside)) (λ k low. ne_eqb (get_or commands k a).c c (λ e. absurd (omega (arith, less k a low, e))))
    (λ within. eq-eqb (get_or commands older a).c c here) in
    sym (cond-true (ltb (position_or_len (is_numbered c) commands) (length commands)) (Some (position_or_len (is_numbered c) commands)) None
    (lt-ltb (position_or_len (is_numbered c) commands) (length commands) (omega (arith, at, inside))) ∙ ap Some at)

-- what a member of the set claims, in the list of all claims
pub claim-there : (s : Scene) (members : List Member) (claims slice : List Claim) (i : ℕ) (m : Member) (d : Claim) → members ≡ s.hist.set → i < length members
    → m ≡ get_or members i m → claims ≡ claims_of s → slice ≡ claims → get_or slice i d ≡ claim_of s m.task.c
claim-there s members claims slice i m d same inside is all shows =
    let f : Member → Claim = λ (x : Member). claim_of s x.task.c in
    let there : m ≡ get_or s.hist.set i m = is ∙ ap (λ (ms : List Member). get_or ms i m) same in
    let within : i < length s.hist.set = subst (λ (ms : List Member). i < length ms) same inside in
    ap (λ (xs : List Claim). get_or xs i d) (shows ∙ all) ∙ (get_or-map f s.hist.set i m d within ∙ ap f (sym there))

-- the claims that hold, by what the calls that gather them say
pub gathered : (s : Scene) (claims slice holders shown : List Claim) → claims ≡ claims_of s → slice ≡ claims → holders ≡ filter is_holder slice → shown ≡ holders
    → shown ≡ holders_of s
gathered s claims slice holders shown all same those shows = shows ∙ (those ∙ ap (filter is_holder) (same ∙ all))

-- work on a command of a number is refused by the claims, where it was started
pub refused-by-claims : (s : Scene) (set : List Member) (c coming : ℕ) (m : Member) (claim : Claim) (holders : List Claim) (r : Option TurnAnswer) → s.back.flights ≡ [] → set ≡ s.hist.set
    → member_of set c ≡ Some m → m.started ≡ true → claim ≡ claim_of s c → holders ≡ holders_of s → r ≡ held_back holders claim
    → r ≡ refusal_of_work s coming c
refused-by-claims s set c coming m claim holders r none same is started claims all refused =
    refused ∙ (started-refused s m claim holders none started (claims ∙ ap (claim_of s) (sym (member-number set c m is))) all ∙ refusal-is s set c coming m same is)

-- and by the set, where it wasn't
pub refused-by-set : (s : Scene) (set : List Member) (c coming : ℕ) (m : Member) (r : Option TurnAnswer) → set ≡ s.hist.set
    → member_of set c ≡ Some m → m.started ≡ false → r ≡ option_map answer.Dormant (blocker_of set c) → r ≡ refusal_of_work s coming c
refused-by-set s set c coming m r same is waits refused =
    refused ∙ (ap (λ (n : ℕ). option_map answer.Dormant (blocker_of set n)) (sym (member-number set c m is))
    ∙ (dormant-refused s set m waits same (member-itself set c m is) ∙ refusal-is s set c coming m same is))
