-- What a commit comes to.
use Rattle.std.proofs.Common.{◌≡◌, ◌≢◌, ℕ, ◌+◌, ◌-◌, ◌*◌, ◌<◌, ◌≤◌, Bool, true, false, List, [], ◌∷◌, ◌++◌, length, map, Option, Some, None, refl, sym, ◌∙◌, ap, subst, arith, ◌⊎◌, inl, inr}
use Rattle.std.specs.Prelude.{◌↔◌, ◌==◌, All, not}
use Rattle.std.proofs.lemmas.Bool.{eqb-true, eq-eqb}
use Rattle.std.proofs.lemmas.List.Elements.{All-nil, All-cons, All-head, All-tail}
use Rattle.disk_base.specs.declared.address.Psn.{Psn}
use Rattle.disk_base.specs.declared.payload.Payload.{Payload}
use Rattle.platter_model.specs.declared.answer.WriteAnswer.{WriteAnswer}
use Rattle.platter_model.specs.declared.answer.WriteAnswer.TheVariants.{Written, Fault}
use Rattle.platter_model.specs.declared.answer.WriteAnswer.TheVariants as write_answer_of
use Rattle.platter_model.specs.declared.op.Op.{Op}
use Rattle.platter_model.specs.declared.op.Op.TheVariants.{Wrote}
use Rattle.platter_model.specs.Sector.{meant, is_sector}
use Rattle.platter_model.specs.State.{State, write_answer}
use Rattle.platter_model.specs.TrueLog.{is_off, strays}
use Rattle.geometry_map.specs.Size.{total_of}
use Rattle.geometry_map.specs.DefectMap.{DefectMap, sector}
use Rattle.map_generations.specs.MapRecord.{map_record, record_sector}
use Rattle.map_generations.specs.SafeMaps.{SafeMaps, IsPresent, NumbersUpTo, HasRecord, with_map, alone}
use Rattle.sector_store.specs.declared.answer.CommitAnswer.{CommitAnswer}
use Rattle.sector_store.specs.declared.answer.CommitAnswer.TheVariants.{Done, Off}
use Rattle.sector_store.specs.Maps.{meant_on, records_of}
use Rattle.sector_store.specs.Stored.{IsThere}
use Rattle.sector_store.specs.Writing.{after_own_write, after_writes, IsDueWithin, AddsWrites}
use Rattle.sector_store.specs.Commits.{IsNextOf, CommitOpsStaySafe, CommitsSafely}
use Rattle.sector_store.specs.State.{Contained, KeepsMaps, IsStore, IsReady}
use Rattle.sector_store.specs.Laws.{PresentMapsAreThere}
use Rattle.sector_store.specs.Committing.{committed, cut_off, IsCommitted, IsCommitCut, Commits, KeepsNumbers}
use Rattle.sector_store.proofs.Meant.{IsMeantBy, write-apart, write-own}
use Rattle.sector_store.proofs.Made.{records_on, records_within}
use Rattle.sector_store.proofs.WritesInOrder.{keeps-writes, writes-apart, adds_writes, eight_records}

-- what holds of nothing, of each payload that is written and of what was meant holds of what is meant in the end
pub after_all : (P : Option Payload → Type 0) (q : Psn) (s : State) (payloads : List Payload) → P None → All (λ payload. P (Some payload)) payloads
    → P (meant q s.ops) → P (meant q (after_writes s payloads).ops)
after_all P q s [] none each before = before
after_all P q s (payload ∷ payloads) none each before =
    after_all P q (after_own_write s payload) payloads none (All-tail (λ (x : Payload). P (Some x)) payload payloads each) (by (payload.psn.0 == q.0) refl)
  where
    here : P (Some payload)
    here = All-head (λ (x : Payload). P (Some x)) payload payloads each

    answered : (more : List Op) (a : WriteAnswer) → IsMeantBy payload.psn payload s.ops more a → payload.psn ≡ q → P (meant q more)
    answered more Written is at = subst P (sym (ap (λ (p : Psn). meant p more) (sym at) ∙ is)) here
    answered more Fault is at = subst P (sym (ap (λ (p : Psn). meant p more) (sym at) ∙ is ∙ ap (λ (p : Psn). meant p s.ops) at)) before
    answered more write_answer_of.Off (inl is) at = subst P (sym (ap (λ (p : Psn). meant p more) (sym at) ∙ is ∙ ap (λ (p : Psn). meant p s.ops) at)) before
    answered more write_answer_of.Off (inr (inl is)) at = subst P (sym (ap (λ (p : Psn). meant p more) (sym at) ∙ is)) here
    answered more write_answer_of.Off (inr (inr is)) at = subst P (sym (ap (λ (p : Psn). meant p more) (sym at) ∙ is)) none

    by : (b : Bool) → (payload.psn.0 == q.0) ≡ b → P (meant q (after_own_write s payload).ops)
    by false apart = subst P (sym (write-apart s payload.psn q payload apart)) before
    by true same =
        answered (after_own_write s payload).ops (write_answer s payload.psn)
        (write-own s payload.psn payload (own payload.psn.0)) (ap sector (eqb-true payload.psn.0 q.0 same))
      where
        own : (n : ℕ) → (n == n) ≡ true
        own n = eq-eqb n n refl

-- records of a number up to a bound bring no greater one
pub keeps_numbers : (s : State) (m : DefectMap) (n : ℕ) → m.number ≤ n → NumbersUpTo (meant_on s.ops) n → NumbersUpTo (meant_on (after_writes s (records_of m)).ops) n
keeps_numbers s m n le before slot copy index p has =
    let P : Option Payload → Type 0 = λ o. (x : Payload) → o ≡ Some x → x.kind ≡ 3 → x.index ≡ index → x.address ≤ n in
    after_all P (record_sector slot copy index) s (records_of m)
    (λ x is kind own. let never : ⊥ = cc in absurd never)
    (records_on (λ payload. P (Some payload)) m (λ c i in_copy in_index x is kind own. subst (λ (o : ℕ). o ≤ n) (address_of (map_record m c i) x is) le))
    (λ x is kind own. before slot copy index x (record { a_slot = has.a_slot; a_copy = has.a_copy; an_index = has.an_index; there = is; kind = kind; own_index = own }))
    p has.there has.kind has.own_index
  where
    address_of : (x y : Payload) → Some x ≡ Some y → x.address ≡ y.address
    address_of x y is = let e : x ≡ y = cc in ap (λ (z : Payload). z.address) e

-- the writes of the next map to a store's platter
pub adds_next : (m next : DefectMap) (others : Option DefectMap) (ready : Bool) (platter : State) → KeepsMaps m others ready platter → is_off platter.ops ≡ false
    → next.slot < 2 → AddsWrites platter (records_of next) (after_writes platter (records_of next))
adds_next m next others ready platter kept on slot = adds_writes platter (records_of next) on kept.sound (records_within 16 next slot (omega arith))

low_slot : (slot own : ℕ) → slot ≡ 1 - own → slot < 2
low_slot slot own is = omega arith

pub next_slot : (m next : DefectMap) → IsNextOf m next → next.slot < 2
next_slot m next follows = low_slot next.slot m.slot follows.slot

-- the next map's commit from a ready store
record Next (m next : DefectMap) (platter : State) : Type 0 where
  adds : AddsWrites platter (records_of next) (after_writes platter (records_of next))
  safely : CommitsSafely m next platter.ops adds.more

next_writes : CommitOpsStaySafe → (m next : DefectMap) (others : Option DefectMap) (platter : State) → KeepsMaps m others true platter → is_off platter.ops ≡ false
    → IsNextOf m next → Next m next platter
next_writes law m next others platter kept on follows =
    let there = kept.there refl in
    record {
      adds = adds_next m next others true platter kept on (next_slot m next follows);
      safely = law m next platter.ops (adds_next m next others true platter kept on (next_slot m next follows)).more there.present kept.valid follows
          (adds_next m next others true platter kept on (next_slot m next follows)).writes;
    }

pub there_after : CommitOpsStaySafe → PresentMapsAreThere → (m next : DefectMap) (others : Option DefectMap) (platter : State) → KeepsMaps m others true platter
    → is_off platter.ops ≡ false → IsNextOf m next → is_off (after_writes platter (records_of next)).ops ≡ false → IsThere next (after_writes platter (records_of next)).ops
there_after law present_there m next others platter kept on follows still =
    let is = next_writes law m next others platter kept on follows in
    present_there next (after_writes platter (records_of next)).ops follows.valid follows.in_use
    (subst (λ (ops : List Op). IsPresent (meant_on ops) next) (sym is.adds.added) (is.safely.done (is.adds.whole still)))

-- what the store keeps after it
pub kept_done : CommitOpsStaySafe → PresentMapsAreThere → (m next : DefectMap) (others : Option DefectMap) (platter after : State) → KeepsMaps m others true platter
    → is_off platter.ops ≡ false → IsNextOf m next → after ≡ after_writes platter (records_of next) → is_off after.ops ≡ false → KeepsMaps next others true after
kept_done law present_there m next others platter after kept on follows after_is still =
    subst (λ (x : State). KeepsMaps next others true x) (sym after_is)
    (subst (λ (o : Option DefectMap). KeepsMaps next o true (after_writes platter (records_of next))) (sym (kept.alone_ready refl)) alone_now)
  where
    there : IsThere next (after_writes platter (records_of next)).ops
    there = there_after law present_there m next others platter kept on follows (subst (λ (x : State). is_off x.ops ≡ false) after_is still)

    alone_now : KeepsMaps next None true (after_writes platter (records_of next))
    alone_now = record {
      sectors = (keeps-writes platter (records_of next)).sectors ∙ (kept.sectors ∙ sym (ap total_of follows.of_drive));
      sound = λ p low. (keeps-writes platter (records_of next)).faults p ∙ kept.sound p low;
      valid = follows.valid;
      follows = tt;
      there = λ ready. there;
      alone_ready = λ ready. refl;
      safe = λ none. there.safe;
    }

pub kept_cut : CommitOpsStaySafe → (m next : DefectMap) (others : Option DefectMap) (platter after : State) → KeepsMaps m others true platter
    → is_off platter.ops ≡ false → IsNextOf m next → after ≡ after_writes platter (records_of next) → KeepsMaps m (Some next) false after
kept_cut law m next others platter after kept on follows after_is =
    let is = next_writes law m next others platter kept on follows in
    subst (λ (x : State). KeepsMaps m (Some next) false x) (sym after_is) (record {
      sectors = (keeps-writes platter (records_of next)).sectors ∙ kept.sectors;
      sound = λ p low. (keeps-writes platter (records_of next)).faults p ∙ kept.sound p low;
      valid = kept.valid;
      follows = follows;
      there = λ ready. let never : ⊥ = cc in absurd never;
      alone_ready = λ ready. let never : ⊥ = cc in absurd never;
      safe = λ none. subst (λ (ops : List Op). SafeMaps (meant_on ops) (with_map (alone m) next)) (sym is.adds.added) is.safely.safe;
    })

number_next : (n m next : ℕ) → next ≡ m + 1 → m < n → next ≤ n
number_next n m next is less = omega arith

numbers_kept : (s after : Contained) (next : DefectMap) → next.number ≡ s.map.number + 1 → after.platter ≡ after_writes s.platter (records_of next) → KeepsNumbers s after
numbers_kept s after next number platter_is n less before =
    subst (λ (x : State). NumbersUpTo (meant_on x.ops) n) (sym platter_is)
    (keeps_numbers s.platter next n (number_next n s.map.number next.number number less) before)

reserved_kept : (s after : Contained) (next : DefectMap) → next.slot < 2 → after.platter ≡ after_writes s.platter (records_of next)
    → (p : Psn) → 16 ≤ p.0 → meant p after.platter.ops ≡ meant p s.platter.ops
reserved_kept s after next slot platter_is p past =
    ap (λ (x : State). meant p x.ops) platter_is ∙ writes-apart s.platter (records_of next) p past (records_within 16 next slot (omega arith))

due_at : (next : DefectMap) (platter : State) (adds : AddsWrites platter (records_of next) (after_writes platter (records_of next)))
    → (is_off (after_writes platter (records_of next)).ops ≡ true) ↔ IsDueWithin 8 platter.armed
due_at next platter adds = subst (λ (n : ℕ). (is_off (after_writes platter (records_of next)).ops ≡ true) ↔ IsDueWithin n platter.armed) (eight_records next) adds.due

ready_at : (s : Contained) (b : Bool) → s.ready ≡ b → IsStore s → KeepsMaps s.map s.next b s.platter
ready_at s b is store = subst (λ (r : Bool). KeepsMaps s.map s.next r s.platter) is store

never_both : (b : Bool) → b ≡ true → b ≡ false → ⊥
never_both b is not_so = let e : true ≡ false = sym is ∙ not_so in cc

pub commits_done : CommitOpsStaySafe → PresentMapsAreThere → (s after : Contained) (next : DefectMap) → IsStore s → s.ready ≡ true → is_off s.platter.ops ≡ false
    → IsNextOf s.map next → after ≡ committed s next → is_off (after_writes s.platter (records_of next)).ops ≡ false → Commits s next Done after
commits_done law present_there s after next store ready on follows after_is still =
    subst (λ (x : Contained). Commits s next Done x) (sym after_is) (record {
      done = λ is. record {
        is = refl;
        written = adds.added ∙ ap (λ (ops : List Op). s.platter.ops ++ ops) (adds.whole still);
        ready = record { ready = ready; none = kept.alone_ready refl; there = end.there refl };
      };
      off = λ is. let never : ⊥ = cc in absurd never;
      due = ((λ is. let never : ⊥ = cc in absurd never), (λ due. absurd (never_both _ ((due_at next s.platter adds).1 due) still)));
      reserved = reserved_kept s (committed s next) next (next_slot s.map next follows) refl;
      safe = end.safe;
      numbers = numbers_kept s (committed s next) next follows.number refl;
    })
  where
    kept : KeepsMaps s.map s.next true s.platter
    kept = ready_at s true ready store

    adds : AddsWrites s.platter (records_of next) (after_writes s.platter (records_of next))
    adds = adds_next s.map next s.next true s.platter kept on (next_slot s.map next follows)

    end : KeepsMaps next s.next true (after_writes s.platter (records_of next))
    end = kept_done law present_there s.map next s.next s.platter (after_writes s.platter (records_of next)) kept on follows refl still

pub commits_cut : CommitOpsStaySafe → (s after : Contained) (next : DefectMap) → IsStore s → s.ready ≡ true → is_off s.platter.ops ≡ false
    → IsNextOf s.map next → after ≡ cut_off s next → is_off (after_writes s.platter (records_of next)).ops ≡ true → Commits s next Off after
commits_cut law s after next store ready on follows after_is gone =
    subst (λ (x : Contained). Commits s next Off x) (sym after_is) (record {
      done = λ is. let never : ⊥ = cc in absurd never;
      off = λ is. record { is = refl; more = adds.more; written = adds.added; writes = adds.writes; off = gone };
      due = ((λ is. (due_at next s.platter adds).0 gone), (λ due. refl));
      reserved = reserved_kept s (cut_off s next) next (next_slot s.map next follows) refl;
      safe = end.safe;
      numbers = numbers_kept s (cut_off s next) next follows.number refl;
    })
  where
    kept : KeepsMaps s.map s.next true s.platter
    kept = ready_at s true ready store

    adds : AddsWrites s.platter (records_of next) (after_writes s.platter (records_of next))
    adds = adds_next s.map next s.next true s.platter kept on (next_slot s.map next follows)

    end : KeepsMaps s.map (Some next) false (after_writes s.platter (records_of next))
    end = kept_cut law s.map next s.next s.platter (after_writes s.platter (records_of next)) kept on follows refl
