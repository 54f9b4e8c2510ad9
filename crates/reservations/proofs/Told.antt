-- Who is told of a lost key, that an attention is told once, and what is shown.
use Rattle.std.proofs.Common.{◌≡◌, ◌≢◌, ◌∙◌, sym, refl, ap, subst, inl, inr, ℕ, zero, suc, ◌+◌, ◌-◌, ◌<◌, ◌==◌, Bool, true, false, not, cond, List, [], ◌∷◌, ◌++◌, length, drop, take, get_or, set, Option, Some, None, IsTrue, arith, get_or-set_other, get_or-set_same}
use Rattle.std.specs.Prelude.{◌&&◌, ◌||◌, ◌⊎◌, slice_get, slice_index}
use Rattle.std.specs.Option.{option_map}
use Rattle.std.proofs.lemmas.Bool.{and_parts, eq-eqb, eqb-true, not-true}
use Rattle.std.proofs.lemmas.List.FromFn.{get_or-map-range_with_len}
use Rattle.disk_base.specs.declared.command.DataOut.{DataOut}
use Rattle.sense_data.specs.declared.attention.Attention.{Attention}
use Rattle.sense_data.specs.declared.sense.Sense.{Sense}
use Rattle.sense_data.specs.Attentions.{KnownStayKnown, Waiting, attention_sense, first_of, none_twice, raised_where, same_attention, waiting_for, waits_in, with_attention}
use Rattle.reservations.specs.declared.state.Holder.{Holder}
use Rattle.reservations.specs.declared.state.State.{State}
use Rattle.reservations.specs.declared.verdict.Rule.{Rule}
use Rattle.reservations.specs.declared.verdict.Rule.TheVariants as rule
use Rattle.reservations.specs.declared.verdict.Verdict.{Verdict}
use Rattle.reservations.specs.declared.verdict.Verdict.TheVariants.{Admit, Answered}
use Rattle.reservations.specs.Acts.{cleared, other_registrants, others_with_key, preempted, registered}
use Rattle.reservations.specs.Desk.{IsInitiator, is_registered, key_of, registrations_preempted, reservations_preempted}
use Rattle.reservations.specs.Judged.{after_attention, judged, passes_attentions}
use Rattle.reservations.specs.Laws.{AttentionsAreToldOnce, IsToldOnce, KeyGoesRight, KeysAreShown, KeysAreTheirOwn, ReservationsAreShown}
use Rattle.std.specs.Int.{w32, to_be_bytes}
use Rattle.reservations.specs.Pages.{holder_bytes, keys_page, reservation_page}
use Rattle.reservations.specs.Request.{allocation}
use Rattle.reservations.specs.Verdicts.{Judgement, done, told}
use Rattle.reservations.proofs.Kept.{Keeps}
use Rattle.reservations.proofs.Reached.{sound-reached}
use Rattle.reservations.proofs.Sound.{taken-at}
use Rattle.reservations.proofs.Start.{alike-everywhere}
use Rattle.reservations.proofs.Ways.{by-ways}

and-true : (x y : Bool) → x ≡ true → y ≡ true → (x && y) ≡ true
and-true true y h k = k
and-true false y h k = absurd (cc)

or-first : (x y : Bool) → x ≡ true → (x || y) ≡ true
or-first true y h = refl
or-first false y h = absurd (cc)

or-second : (x y : Bool) → y ≡ true → (x || y) ≡ true
or-second true y h = refl
or-second false y h = h

same-self : (a : Attention) → same_attention a a ≡ true
same-self a = and-true (a.asc == a.asc) (a.ascq == a.ascq) (eq-eqb a.asc a.asc refl) (eq-eqb a.ascq a.ascq refl)

waits-at-end : (a : Attention) (xs : List Attention) → waits_in a (xs ++ a ∷ []) ≡ true
waits-at-end a [] = or-first (same_attention a a) false (same-self a)
waits-at-end a (x ∷ xs) = or-second (same_attention x a) (waits_in a (xs ++ a ∷ [])) (waits-at-end a xs)

waits-with : (a : Attention) (xs : List Attention) (b : Bool) → waits_in a xs ≡ b → waits_in a (cond b xs (xs ++ a ∷ [])) ≡ true
waits-with a xs true is = is
waits-with a xs false is = waits-at-end a xs

-- an attention waits for who is marked
raised-at : (marks : List Bool) (a : Attention) (w : Waiting) (k : ℕ) → k < length w → get_or marks k false ≡ true
    → waits_in a (get_or (raised_where marks a w) k []) ≡ true
raised-at [] a w k lt is = absurd (cc)
raised-at (m ∷ marks) a [] k lt is = absurd (omega arith)
raised-at (m ∷ marks) a (q ∷ w) zero lt is =
    ap (λ b. waits_in a (cond b (with_attention a q) q)) is ∙ waits-with a q (waits_in a q) refl
raised-at (m ∷ marks) a (q ∷ w) (suc k) lt is = raised-at marks a w k (omega arith) is

-- two initiators are one where their places are
apart : (i j : ℕ) → IsInitiator i → IsInitiator j → (j == i) ≡ false → not (j - 1 == i - 1) ≡ true
apart i j hi hj other =
    elim (j - 1 == i - 1) as (λ b. (j - 1 == i - 1) ≡ b → not b ≡ true) [
      | true ↦ λ e.
          let places : j - 1 ≡ i - 1 = eqb-true (j - 1) (i - 1) e in
          let same : j ≡ i = omega (arith, hi.0, hj.0) in
          let yes : (j == i) ≡ true = eq-eqb j i same in absurd (cc)
      | false ↦ λ e. refl
    ] refl

key-registered : (d : State) (i j key : ℕ) (b : Bool) → IsInitiator i → IsInitiator j → (j == i) ≡ b
    → KeyGoesRight d i (done rule.Register) (registered d i key) j
key-registered d i j key true hi hj is = inr (inl (eqb-true j i is, refl))
key-registered d i j key false hi hj is =
    let places : j - 1 ≢ i - 1 = λ e. let no : (j - 1 == i - 1) ≡ true = eq-eqb (j - 1) (i - 1) e in let yes = apart i j hi hj is in cc in
    inl (get_or-set_other d.keys (i - 1) (j - 1) key 0 places)

key-cleared : (d : State) (i j : ℕ) (b : Bool) → IsInitiator i → IsInitiator j → Keeps d → IsTrue (is_registered d i) → (key_of d j == 0) ≡ b
    → KeyGoesRight d i (done rule.Clear) (cleared d i) j
key-cleared d i j true hi hj s own none = inl (alike-everywhere 0 8 (j - 1) ∙ sym (eqb-true (key_of d j) 0 none))
key-cleared d i j false hi hj s own some =
    let inside : j - 1 < 8 = omega arith in
    let here : 0 + (j - 1) ≡ j - 1 = omega arith in
    let listed : j - 1 < length d.waiting = omega (arith, s.eight_lists) in
    inr (inr (
      alike-everywhere 0 8 (j - 1),
      own,
      inl refl,
      λ other.
          let mark : get_or (other_registrants d.keys i) (j - 1) false ≡ true =
          get_or-map-range_with_len (λ p. not (p == i - 1) && not (get_or d.keys p 0 == 0)) 0 8 (j - 1) (j - 1) false inside here
          ∙ and-true (not (j - 1 == i - 1)) (not (key_of d j == 0)) (apart i j hi hj other) (ap not some) in
          or-first _ _ (raised-at (other_registrants d.keys i) reservations_preempted d.waiting (j - 1) listed mark),
    ))

key-preempted : (d : State) (i j kind n : ℕ) (b : Bool) → IsInitiator j → Keeps d → IsTrue (is_registered d i)
    → (not (j - 1 == i - 1) && (key_of d j == n)) ≡ b → KeyGoesRight d i (done rule.Preempt) (preempted d i kind n) j
key-preempted d i j kind n false hj s own test =
    let inside : j - 1 < 8 = omega arith in
    inl (taken-at d.keys i n (j - 1) inside ∙ ap (λ b. cond b 0 (key_of d j)) test)
key-preempted d i j kind n true hj s own test =
    let inside : j - 1 < 8 = omega arith in
    let here : 0 + (j - 1) ≡ j - 1 = omega arith in
    let listed : j - 1 < length d.waiting = omega (arith, s.eight_lists) in
    inr (inr (
      taken-at d.keys i n (j - 1) inside ∙ ap (λ b. cond b 0 (key_of d j)) test,
      own,
      inr refl,
      λ other.
          let mark : get_or (others_with_key d.keys i n) (j - 1) false ≡ true =
          get_or-map-range_with_len (λ p. not (p == i - 1) && get_or d.keys p 0 == n) 0 8 (j - 1) (j - 1) false inside here ∙ test in
          or-second _ _ (raised-at (others_with_key d.keys i n) registrations_preempted d.waiting (j - 1) listed mark),
    ))

pub keys-are-their-own : KnownStayKnown → KeysAreTheirOwn
keys-are-their-own law d i j cdb sent is hi hj =
    let s = sound-reached law d is in
    by-ways (λ (x : Judgement). KeyGoesRight d i x.verdict x.desk j) d i cdb sent (record {
      told_way = λ a met. inl refl;
      keys_way = inl refl;
      reservation_way = inl refl;
      refused_way = λ a. inl refl;
      key_way = inl refl;
      holder_way = λ h held. inl refl;
      admit_way = λ free. inl refl;
      register_way = λ r asked. key-registered d i j r.action_key (j == i) hi hj refl;
      reserve_way = λ r asked named own free. inl refl;
      same_way = inl refl;
      release_way = inl refl;
      drop_way = λ h kind held mine. inl refl;
      clear_way = λ own. key-cleared d i j (key_of d j == 0) hi hj s own refl;
      preempt_way = λ r asked named own. key-preempted d i j r.kind r.action_key (not (j - 1 == i - 1) && (key_of d j == r.action_key)) hj s own refl;
    })

-- the sense data of the first of a list
first_in : List Attention → Option Sense
first_in q = option_map attention_sense (slice_get q 0)

sense_in : Option Sense → Sense → Sense
sense_in None other = other
sense_in (Some s) other = s

-- the sense data of an answer
sense_told : Sense → Verdict → Sense
sense_told other Admit = other
sense_told other (Answered rule reply page) = sense_in reply.sense other

told-injective : (a b : Sense) → told a ≡ told b → a ≡ b
unfolding sense_told sense_in
told-injective a b e = ap (sense_told a) e

-- the first that waits is told, where the command isn't one that passes
met-first : (b : Bool) (o : Option Sense) (s : Sense) → cond b None o ≡ Some s → o ≡ Some s
met-first true o s met = absurd (cc)
met-first false o s met = met

told-once : (d : State) (i : ℕ) (s : Sense) (q : List Attention) → i - 1 < length d.waiting → waiting_for d.waiting i ≡ q → IsTrue (none_twice q)
    → first_of d.waiting i ≡ Some s → IsToldOnce d i s (after_attention (Some s) d i)
unfolding first_in
told-once d i s [] lt waits once first =
    let none : first_of d.waiting i ≡ None = ap (λ (q : List Attention). first_in q) waits in absurd (cc)
told-once d i s (a ∷ q) lt waits once first =
    let some : first_of d.waiting i ≡ Some (attention_sense a) = ap (λ (x : List Attention). first_in x) waits in
    let same : s ≡ attention_sense a = cc in
    let after : waiting_for (set d.waiting (i - 1) (drop 1 (waiting_for d.waiting i))) i ≡ q =
    get_or-set_same d.waiting (i - 1) (drop 1 (waiting_for d.waiting i)) [] lt ∙ ap (λ (x : List Attention). drop 1 x) waits in (
      a,
      same,
      waits ∙ ap (λ (x : List Attention). a ∷ x) (sym after),
      ap (λ (x : List Attention). waits_in a x) after ∙ not-true (waits_in a q) (and_parts (not (waits_in a q)) (none_twice q) once).0,
      refl,
      refl,
      refl,
    )

pub attentions-are-told-once : KnownStayKnown → AttentionsAreToldOnce
attentions-are-told-once law d i cdb sent sense is hi =
    let s = sound-reached law d is in
    let lt : i - 1 < length d.waiting = omega (arith, s.eight_lists) in
    by-ways (λ (x : Judgement). x.verdict ≡ told sense → IsToldOnce d i sense x.desk) d i cdb sent (record {
      told_way = λ a met e.
          let same : a ≡ sense = told-injective a sense e in
          subst (λ (x : Sense). IsToldOnce d i x (after_attention (Some x) d i)) same
          (told-once d i a (waiting_for d.waiting i) lt refl (s.known_wait i).0 (met-first (passes_attentions (slice_index cdb 0)) (first_of d.waiting i) a met));
      keys_way = λ e. absurd (cc);
      reservation_way = λ e. absurd (cc);
      refused_way = λ a e. absurd (cc);
      key_way = λ e. absurd (cc);
      holder_way = λ h held e. absurd (cc);
      admit_way = λ free e. absurd (cc);
      register_way = λ r asked e. absurd (cc);
      reserve_way = λ r asked named own free e. absurd (cc);
      same_way = λ e. absurd (cc);
      release_way = λ e. absurd (cc);
      drop_way = λ h kind held mine e. absurd (cc);
      clear_way = λ own e. absurd (cc);
      preempt_way = λ r asked named own e. absurd (cc);
    })

page_of : Verdict → List ℕ
page_of Admit = []
page_of (Answered rule reply page) = page.items

rule_of : Verdict → Option Rule
rule_of Admit = None
rule_of (Answered r reply page) = Some r

-- the two rules that show something
is-showing : Option Rule → Bool
is-showing (Some rule.Keys) = true
is-showing (Some rule.Reservation) = true
is-showing other = false

-- which page is shown by a rule, if any is
ShownBy : State → List ℕ → Option Rule → List ℕ → Type 0
ShownBy d cdb r page = ((r ≡ Some rule.Keys) × (page ≡ take (allocation cdb) (keys_page d)))
    ⊎ ((r ≡ Some rule.Reservation) × (page ≡ take (allocation cdb) (reservation_page d)))
    ⊎ (is-showing r ≡ false)

shown-by : (d : State) (i : ℕ) (cdb : List ℕ) (sent : DataOut) → ShownBy d cdb (rule_of (judged d i cdb sent).verdict) (page_of (judged d i cdb sent).verdict)
unfolding page_of rule_of is-showing ShownBy
shown-by d i cdb sent = by-ways (λ (x : Judgement). ShownBy d cdb (rule_of x.verdict) (page_of x.verdict)) d i cdb sent (record {
  told_way = λ a met. inr (inr refl);
  keys_way = inl (refl, refl);
  reservation_way = inr (inl (refl, refl));
  refused_way = λ a. inr (inr refl);
  key_way = inr (inr refl);
  holder_way = λ h held. inr (inr refl);
  admit_way = λ free. inr (inr refl);
  register_way = λ r asked. inr (inr refl);
  reserve_way = λ r asked named own free. inr (inr refl);
  same_way = inr (inr refl);
  release_way = inr (inr refl);
  drop_way = λ h kind held mine. inr (inr refl);
  clear_way = λ own. inr (inr refl);
  preempt_way = λ r asked named own. inr (inr refl);
})

pub keys-are-shown : KeysAreShown
unfolding page_of rule_of is-showing ShownBy
keys-are-shown d i cdb sent page e =
    let P : Verdict → Type 0 = λ v. ShownBy d cdb (rule_of v) (page_of v) in
    elim (subst P e (shown-by d i cdb sent)) [
      | inl keys ↦ keys.1
      | inr (inl reservation) ↦ let other : Some rule.Reservation ≡ Some rule.Keys = sym reservation.0 in absurd (cc)
      | inr (inr none) ↦ absurd (cc)
    ]

pub reservations-are-shown : ReservationsAreShown
unfolding page_of rule_of is-showing ShownBy
reservations-are-shown d h i cdb sent page held e =
    let P : Verdict → Type 0 = λ v. ShownBy d cdb (rule_of v) (page_of v) in
    elim (subst P e (shown-by d i cdb sent)) [
      | inl keys ↦ let other : Some rule.Keys ≡ Some rule.Reservation = sym keys.0 in absurd (cc)
      | inr (inl reservation) ↦ reservation.1 ∙ ap (λ (o : Option Holder). take (allocation cdb) (to_be_bytes w32 d.generation ++ holder_bytes o d)) held
      | inr (inr none) ↦ absurd (cc)
    ]
