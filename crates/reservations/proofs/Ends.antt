-- How a reservation ends.
use Rattle.std.proofs.Common.{◌≡◌, ◌∙◌, sym, refl, ap, inl, inr, ℕ, ◌==◌, Bool, true, false, cond, Option, Some, None}
use Rattle.std.specs.Prelude.{◌⊎◌}
use Rattle.std.proofs.lemmas.Bool.{eqb-true}
use Rattle.reservations.specs.declared.state.Holder.{Holder}
use Rattle.reservations.specs.declared.state.State.{State}
use Rattle.reservations.specs.declared.verdict.Rule.TheVariants as rule
use Rattle.reservations.specs.declared.verdict.Verdict.{Verdict}
use Rattle.reservations.specs.Acts.{dropped, dropped_by, registered}
use Rattle.reservations.specs.Laws.{ReservationsAreTheirOwn, ReservationGoesRight}
use Rattle.reservations.specs.Verdicts.{Judgement, done}
use Rattle.reservations.proofs.Ways.{by-ways}

mine : (d : State) (i : ℕ) (g h : Holder) (b : Bool) → d.holder ≡ Some g → d.holder ≡ Some h → (g.initiator == i) ≡ b
    → ((cond b (dropped d i g.kind) d).holder ≡ Some h) ⊎ (h.initiator ≡ i)
mine d i g h true is held own =
    let same : g ≡ h = cc in inr (sym (ap (λ (k : Holder). k.initiator) same) ∙ eqb-true g.initiator i own)
mine d i g h false is held own = inl held

-- the holder after REGISTER: it stays, or it was the initiator's own
after-register : (d : State) (i : ℕ) (b : Bool) (o : Option Holder) (h : Holder) → d.holder ≡ o → d.holder ≡ Some h
    → ((cond b (dropped_by o d i) d).holder ≡ Some h) ⊎ (h.initiator ≡ i)
after-register d i false o h is held = inl held
after-register d i true None h is held = absurd (cc)
after-register d i true (Some g) h is held = mine d i g h (g.initiator == i) is held refl

-- one way or the other of two is one of three
wider : (d : State) (h : Holder) (i : ℕ) (v : Verdict) (after : State) → (after.holder ≡ Some h) ⊎ (h.initiator ≡ i) → ReservationGoesRight d h i v after
wider d h i v after (inl stays) = inl stays
wider d h i v after (inr own) = inr (inl own)

pub reservations-are-their-own : ReservationsAreTheirOwn
reservations-are-their-own d h i cdb sent held = by-ways (λ (j : Judgement). ReservationGoesRight d h i j.verdict j.desk) d i cdb sent (record {
  told_way = λ s met. inl held;
  keys_way = inl held;
  reservation_way = inl held;
  refused_way = λ s. inl held;
  key_way = inl held;
  holder_way = λ k also. inl held;
  admit_way = λ free. inl held;
  register_way = λ r asked. wider d h i (done rule.Register) (registered d i r.action_key) (after-register d i (r.action_key == 0) d.holder h refl held);
  reserve_way = λ r asked named own none. absurd (cc);
  same_way = inl held;
  release_way = inl held;
  drop_way = λ k kind also own. let same : k ≡ h = cc in inr (inl (sym (ap (λ (x : Holder). x.initiator) same) ∙ eqb-true k.initiator i own));
  clear_way = λ own. inr (inr (own, inl refl));
  preempt_way = λ r asked named own. inr (inr (own, inr refl));
})
