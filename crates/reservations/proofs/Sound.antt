-- What a desk keeps is kept by each judgement.
use Rattle.std.proofs.Common.{◌≡◌, ◌≢◌, ◌∙◌, sym, refl, ap, subst, inl, inr, ℕ, zero, suc, ◌+◌, ◌-◌, ◌<◌, ◌^◌, ◌==◌, Bool, true, false, not, cond, List, [], ◌∷◌, length, drop, get_or, set, Option, Some, None, IsTrue, arith, get_or-set_other, get_or-set_same}
use Rattle.std.specs.Prelude.{◌&&◌, ◌⊎◌}
use Rattle.std.specs.Option.{option_map_or}
use Rattle.std.proofs.lemmas.Bool.{eqb-true, eq-eqb}
use Rattle.std.proofs.lemmas.List.{length-set}
use Rattle.std.proofs.lemmas.List.FromFn.{get_or-map-range_with_len}
use Rattle.disk_base.specs.declared.command.DataOut.{DataOut}
use Rattle.sense_data.specs.declared.attention.Attention.{Attention}
use Rattle.sense_data.specs.Attentions.{AreAmong, KnownStayKnown, Waiting, raised_where, waiting_for, waits_in}
use Rattle.reservations.specs.declared.state.Holder.{Holder}
use Rattle.reservations.specs.declared.state.State.{State}
use Rattle.reservations.specs.Acts.{cleared, dropped, dropped_by, holder_has, other_registrants, others_with_key, preempted, registered, taken}
use Rattle.reservations.specs.Desk.{IsDesk, IsInitiator, KnownWait, is_for_registrants, is_registered, is_type, key_of, known_attentions, registrations_preempted, reservations_preempted, reservations_released}
use Rattle.reservations.specs.Judged.{judged}
use Rattle.reservations.specs.Verdicts.{Judgement}
use Rattle.reservations.proofs.Kept.{Keeps, desk-kept, keeps-desk}
use Rattle.reservations.proofs.Requests.{type-of-request}
use Rattle.reservations.proofs.Ways.{by-ways}

-- what holds of a written value and of each value before holds of each after
each-set : {X : Type 0} (P : X → Type 0) (d : X) (xs : List X) (p : ℕ) (v : X) → P v → ((j : ℕ) → P (get_or xs j d)) → (j : ℕ) → P (get_or (set xs p v) j d)
each-set P d [] p v new old j = old j
each-set P d (x ∷ xs) zero v new old zero = new
each-set P d (x ∷ xs) zero v new old (suc j) = old (suc j)
each-set P d (x ∷ xs) (suc p) v new old zero = old zero
each-set P d (x ∷ xs) (suc p) v new old (suc j) = each-set P d xs p v new (λ k. old (suc k)) j

-- by place in place of by initiator
everywhere : (w : Waiting) → KnownWait w → (k : ℕ) → AreAmong known_attentions (get_or w k [])
everywhere w known k =
    let back : k + 1 - 1 ≡ k = omega arith in subst (λ n. AreAmong known_attentions (get_or w n [])) back (known (k + 1))

known-if : (b : Bool) (known p q : List Attention) → AreAmong known p → AreAmong known q → AreAmong known (cond b p q)
known-if true known p q h k = h
known-if false known p q h k = k

-- an attention that is known, raised for those that are marked
known-marked : KnownStayKnown → (marks : List Bool) (a : Attention) (w : Waiting) → IsTrue (waits_in a known_attentions)
    → ((k : ℕ) → AreAmong known_attentions (get_or w k [])) → (k : ℕ) → AreAmong known_attentions (get_or (raised_where marks a w) k [])
known-marked law [] a w is known k = known k
known-marked law (m ∷ marks) a [] is known k = known k
known-marked law (m ∷ marks) a (q ∷ w) is known zero = known-if m known_attentions _ q (law known_attentions q a is (known zero)).0 (known zero)
known-marked law (m ∷ marks) a (q ∷ w) is known (suc k) = known-marked law marks a w is (λ n. known (suc n)) k

known-raised : KnownStayKnown → (marks : List Bool) (a : Attention) (w : Waiting) → IsTrue (waits_in a known_attentions) → KnownWait w → KnownWait (raised_where marks a w)
known-raised law marks a w is known i = known-marked law marks a w is (everywhere w known) (i - 1)

pub length-raised_where : (marks : List Bool) (a : Attention) (w : Waiting) → length (raised_where marks a w) ≡ length w
length-raised_where [] a w = refl
length-raised_where (m ∷ marks) a [] = refl
length-raised_where (m ∷ marks) a (q ∷ w) = ap suc (length-raised_where marks a w)

-- what waits after a reservation ended
known-dropped : KnownStayKnown → (b : Bool) (marks : List Bool) (w : Waiting) → KnownWait w → KnownWait (cond b (raised_where marks reservations_released w) w)
known-dropped law true marks w known = known-raised law marks reservations_released w refl known
known-dropped law false marks w known = known

length-dropped : (b : Bool) (marks : List Bool) (w : Waiting) → length (cond b (raised_where marks reservations_released w) w) ≡ length w
length-dropped true marks w = length-raised_where marks reservations_released w
length-dropped false marks w = refl

-- a key after it was taken from the others that had the one named
pub taken-at : (keys : List ℕ) (i n p : ℕ) → p < 8
    → get_or (taken keys (others_with_key keys i n)) p 0 ≡ cond (not (p == i - 1) && get_or keys p 0 == n) 0 (get_or keys p 0)
taken-at keys i n p lt =
    let here : 0 + p ≡ p = omega arith in
    get_or-map-range_with_len (λ q. cond (get_or (others_with_key keys i n) q false) 0 (get_or keys q 0)) 0 8 p p 0 lt here
    ∙ ap (λ b. cond b 0 (get_or keys p 0)) (get_or-map-range_with_len (λ q. not (q == i - 1) && get_or keys q 0 == n) 0 8 p p false lt here)

-- a written key, where it isn't 0 or it is another's
set-registered : (keys : List ℕ) (i j key : ℕ) (b : Bool) → IsInitiator i → IsInitiator j → length keys ≡ 8 → (j == i) ≡ b
    → IsTrue (not (get_or keys (j - 1) 0 == 0)) → ((key == 0) ≡ false) ⊎ ((j == i) ≡ false) → IsTrue (not (get_or (set keys (i - 1) key) (j - 1) 0 == 0))
set-registered keys i j key true hi hj long same was (inl some) =
    let e : j ≡ i = eqb-true j i same in
    let inside : i - 1 < length keys = omega arith in
    let place : j - 1 ≡ i - 1 = ap (λ n. n - 1) e in
    let now : get_or (set keys (i - 1) key) (j - 1) 0 ≡ key =
    ap (λ n. get_or (set keys (i - 1) key) n 0) place ∙ get_or-set_same keys (i - 1) key 0 inside in
    ap (λ n. not (n == 0)) now ∙ ap not some
set-registered keys i j key true hi hj long same was (inr other) = absurd (cc)
set-registered keys i j key false hi hj long same was right =
    let ne : j ≢ i = λ e. let yes : (j == i) ≡ true = eq-eqb j i e in cc in
    let apart : j - 1 ≢ i - 1 = λ e. ne (omega arith) in
    ap (λ n. not (n == 0)) (get_or-set_other keys (i - 1) (j - 1) key 0 apart) ∙ was

-- who holds the unit after REGISTER held it before, and keeps a key
still-mine : (d : State) (i key : ℕ) (g : Holder) → d.holder ≡ Some g → (h : Holder) (b : Bool) → (g.initiator == i) ≡ b
    → (cond b (dropped d i g.kind) d).holder ≡ Some h → (d.holder ≡ Some h) × (((key == 0) ≡ false) ⊎ ((h.initiator == i) ≡ false))
still-mine d i key g held h true mine is = absurd (cc)
still-mine d i key g held h false mine is =
    let same : g ≡ h = cc in (is, inr (subst (λ (k : Holder). (k.initiator == i) ≡ false) same mine))

still-held : (d : State) (i key : ℕ) (b : Bool) (o : Option Holder) → (key == 0) ≡ b → d.holder ≡ o → (h : Holder)
    → (cond b (dropped_by o d i) d).holder ≡ Some h → (d.holder ≡ Some h) × (((key == 0) ≡ false) ⊎ ((h.initiator == i) ≡ false))
still-held d i key false o none held h is = (is, inl none)
still-held d i key true None none held h is = absurd (cc)
still-held d i key true (Some g) none held h is = still-mine d i key g held h (g.initiator == i) refl is

-- a property of what waits, where a reservation ends or not
waiting-dropped : (P : Waiting → Type 0) (d : State) (i : ℕ) (b : Bool) (o : Option Holder) → P d.waiting
    → ((kind : ℕ) → P (dropped d i kind).waiting) → P (cond b (dropped_by o d i) d).waiting
waiting-dropped P d i false o same ends = same
waiting-dropped P d i true None same ends = same
waiting-dropped P d i true (Some g) same ends =
    elim (g.initiator == i) as (λ b. P (cond b (dropped d i g.kind) d).waiting) [ true ↦ ends g.kind | false ↦ same ]

sound-told : KnownStayKnown → (d : State) (i : ℕ) → Keeps d → Keeps (record d { waiting = set d.waiting (i - 1) (drop 1 (waiting_for d.waiting i)) })
sound-told law d i s = record {
  eight_keys = s.eight_keys;
  holder_registered = s.holder_registered;
  holder_type = s.holder_type;
  generation_fits = s.generation_fits;
  eight_lists = length-set d.waiting (i - 1) (drop 1 (waiting_for d.waiting i)) ∙ s.eight_lists;
  known_wait = λ j. each-set (λ (q : List Attention). AreAmong known_attentions q) [] d.waiting (i - 1) (drop 1 (waiting_for d.waiting i))
      (law known_attentions (waiting_for d.waiting i) reservations_preempted refl (s.known_wait i)).1 (everywhere d.waiting s.known_wait) (j - 1);
}

sound-registered : KnownStayKnown → (d : State) (i key : ℕ) → IsInitiator i → Keeps d → Keeps (registered d i key)
sound-registered law d i key hi s = record {
  eight_keys = length-set d.keys (i - 1) key ∙ s.eight_keys;
  holder_registered = λ h is.
      let was = still-held d i key (key == 0) d.holder refl refl h is in
      let before = s.holder_registered h was.0 in
      (before.0, set-registered d.keys i h.initiator key (h.initiator == i) hi before.0 s.eight_keys refl before.1 was.1);
  holder_type = λ h is. s.holder_type h (still-held d i key (key == 0) d.holder refl refl h is).0;
  generation_fits = omega arith;
  eight_lists = waiting-dropped (λ (w : Waiting). length w ≡ 8) d i (key == 0) d.holder s.eight_lists
      (λ kind. length-dropped (is_for_registrants kind) (other_registrants d.keys i) d.waiting ∙ s.eight_lists);
  known_wait = waiting-dropped KnownWait d i (key == 0) d.holder s.known_wait
      (λ kind. known-dropped law (is_for_registrants kind) (other_registrants d.keys i) d.waiting s.known_wait);
}

sound-held : (d : State) (i kind : ℕ) → IsInitiator i → IsTrue (is_registered d i) → IsTrue (is_type kind) → Keeps d
    → Keeps (record d { holder = Some (record { initiator = i; kind = kind }) })
sound-held d i kind hi own type s =
    let now : Holder = record { initiator = i; kind = kind } in record {
      eight_keys = s.eight_keys;
      holder_registered = λ h is. let same : now ≡ h = cc in subst (λ (k : Holder). IsInitiator k.initiator × IsTrue (is_registered d k.initiator)) same (hi, own);
      holder_type = λ h is. let same : now ≡ h = cc in subst (λ (k : Holder). IsTrue (is_type k.kind)) same type;
      generation_fits = s.generation_fits;
      eight_lists = s.eight_lists;
      known_wait = s.known_wait;
    }

sound-dropped : KnownStayKnown → (d : State) (i kind : ℕ) → Keeps d → Keeps (dropped d i kind)
sound-dropped law d i kind s = record {
  eight_keys = s.eight_keys;
  holder_registered = λ h is. absurd (cc);
  holder_type = λ h is. absurd (cc);
  generation_fits = s.generation_fits;
  eight_lists = length-dropped (is_for_registrants kind) (other_registrants d.keys i) d.waiting ∙ s.eight_lists;
  known_wait = known-dropped law (is_for_registrants kind) (other_registrants d.keys i) d.waiting s.known_wait;
}

sound-cleared : KnownStayKnown → (d : State) (i : ℕ) → Keeps d → Keeps (cleared d i)
sound-cleared law d i s = record {
  eight_keys = refl;
  holder_registered = λ h is. absurd (cc);
  holder_type = λ h is. absurd (cc);
  generation_fits = omega arith;
  eight_lists = length-raised_where (other_registrants d.keys i) reservations_preempted d.waiting ∙ s.eight_lists;
  known_wait = known-raised law (other_registrants d.keys i) reservations_preempted d.waiting refl s.known_wait;
}

-- the holder after PREEMPT: the one who preempts, or the one before, whose key isn't the one named
holder-of : (d : State) (i kind n : ℕ) (b : Bool) (h : Holder) → holder_has d n ≡ b
    → cond b (Some (record { initiator = i; kind = kind })) d.holder ≡ Some h
    → ((h.initiator ≡ i) × (h.kind ≡ kind)) ⊎ ((d.holder ≡ Some h) × ((key_of d h.initiator == n) ≡ false))
holder-of d i kind n true h has is =
    let now : Holder = record { initiator = i; kind = kind } in
    let same : now ≡ h = cc in inl (sym (ap (λ (k : Holder). k.initiator) same), sym (ap (λ (k : Holder). k.kind) same))
holder-of d i kind n false h has is =
    inr (is, subst (λ (o : Option Holder). option_map_or (λ (k : Holder). key_of d k.initiator == n) o false ≡ false) is has)

-- a key that isn't taken
not-taken : (d : State) (i n j : ℕ) → IsInitiator j → (not (j - 1 == i - 1) && (key_of d j == n)) ≡ false
    → get_or (taken d.keys (others_with_key d.keys i n)) (j - 1) 0 ≡ key_of d j
not-taken d i n j hj test = taken-at d.keys i n (j - 1) (omega arith) ∙ ap (λ b. cond b 0 (key_of d j)) test

and-false : (x y : Bool) → y ≡ false → (x && y) ≡ false
and-false true y h = h
and-false false y h = refl

own-place : (i : ℕ) (y : Bool) → (not (i - 1 == i - 1) && y) ≡ false
own-place i y = ap (λ b. not b && y) (eq-eqb (i - 1) (i - 1) refl)

registered-after : (d : State) (i kind n : ℕ) (h : Holder) → IsInitiator i → IsTrue (is_registered d i) → Keeps d
    → ((h.initiator ≡ i) × (h.kind ≡ kind)) ⊎ ((d.holder ≡ Some h) × ((key_of d h.initiator == n) ≡ false))
    → IsInitiator h.initiator × IsTrue (not (get_or (taken d.keys (others_with_key d.keys i n)) (h.initiator - 1) 0 == 0))
registered-after d i kind n h hi own s (inl mine) =
    subst (λ j. IsInitiator j × IsTrue (not (get_or (taken d.keys (others_with_key d.keys i n)) (j - 1) 0 == 0))) (sym mine.0)
    (hi, ap (λ k. not (k == 0)) (not-taken d i n i hi (own-place i _)) ∙ own)
registered-after d i kind n h hi own s (inr was) =
    let before = s.holder_registered h was.0 in
    (before.0, ap (λ k. not (k == 0)) (not-taken d i n h.initiator before.0 (and-false _ _ was.1)) ∙ before.1)

type-after : (d : State) (i kind n : ℕ) (h : Holder) → IsTrue (is_type kind) → Keeps d
    → ((h.initiator ≡ i) × (h.kind ≡ kind)) ⊎ ((d.holder ≡ Some h) × ((key_of d h.initiator == n) ≡ false)) → IsTrue (is_type h.kind)
type-after d i kind n h type s (inl mine) = ap is_type mine.1 ∙ type
type-after d i kind n h type s (inr was) = s.holder_type h was.0

sound-preempted : KnownStayKnown → (d : State) (i kind n : ℕ) → IsInitiator i → IsTrue (is_registered d i) → IsTrue (is_type kind) → Keeps d
    → Keeps (preempted d i kind n)
sound-preempted law d i kind n hi own type s = record {
  eight_keys = refl;
  holder_registered = λ h is. registered-after d i kind n h hi own s (holder-of d i kind n (holder_has d n) h refl is);
  holder_type = λ h is. type-after d i kind n h type s (holder-of d i kind n (holder_has d n) h refl is);
  generation_fits = omega arith;
  eight_lists = length-raised_where (others_with_key d.keys i n) registrations_preempted d.waiting ∙ s.eight_lists;
  known_wait = known-raised law (others_with_key d.keys i n) registrations_preempted d.waiting refl s.known_wait;
}

-- what a desk keeps stays so
pub sound-judged : KnownStayKnown → (d : State) (i : ℕ) (cdb : List ℕ) (sent : DataOut) → IsInitiator i → Keeps d → Keeps (judged d i cdb sent).desk
sound-judged law d i cdb sent hi s = by-ways (λ (j : Judgement). Keeps j.desk) d i cdb sent (record {
  told_way = λ a met. sound-told law d i s;
  keys_way = s;
  reservation_way = s;
  refused_way = λ a. s;
  key_way = s;
  holder_way = λ h held. s;
  admit_way = λ free. s;
  register_way = λ r is. sound-registered law d i r.action_key hi s;
  reserve_way = λ r is named own free. sound-held d i r.kind hi own (type-of-request cdb sent r is named) s;
  same_way = s;
  release_way = s;
  drop_way = λ h kind held mine. sound-dropped law d i kind s;
  clear_way = λ own. sound-cleared law d i s;
  preempt_way = λ r is named own. sound-preempted law d i r.kind r.action_key hi own (type-of-request cdb sent r is named) s;
})

-- with keys that fit it is a desk again
pub desk-judged : KnownStayKnown → (d : State) (i : ℕ) (cdb : List ℕ) (sent : DataOut) (after : State) → IsInitiator i → IsDesk d
    → after ≡ (judged d i cdb sent).desk → ((k : ℕ) → k < 8 → get_or after.keys k 0 < 2 ^ 64) → IsDesk after
desk-judged law d i cdb sent after hi s is fit =
    desk-kept after (subst (λ (e : State). Keeps e) (sym is) (sound-judged law d i cdb sent hi (keeps-desk d s))) fit
