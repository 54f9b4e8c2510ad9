-- The ways in which a command is judged: what holds of each of them holds of the judgement.
use Rattle.std.proofs.Common.{◌≡◌, refl, ap, subst, ℕ, ◌==◌, Bool, true, false, not, cond, List, take, Option, Some, None, Result, Ok, Err}
use Rattle.std.specs.Prelude.{◌&&◌, slice_index}
use Rattle.std.proofs.lemmas.Bool.{and_parts}
use Rattle.disk_base.specs.declared.command.DataOut.{DataOut}
use Rattle.sense_data.specs.declared.sense.Sense.{Sense}
use Rattle.reservations.specs.declared.request.Action.{Action}
use Rattle.reservations.specs.declared.request.Action.TheVariants.{Register, Reserve, Release, Clear, Preempt, RegisterAndIgnoreExistingKey}
use Rattle.reservations.specs.declared.request.Request.{Request}
use Rattle.reservations.specs.declared.state.Holder.{Holder}
use Rattle.reservations.specs.declared.state.State.{State}
use Rattle.reservations.specs.declared.verdict.Rule.TheVariants as rule
use Rattle.reservations.specs.declared.verdict.Verdict.TheVariants.{Admit}
use Rattle.reservations.specs.Acts.{acted, cleared, dropped, has_right_keys, is_anyones, preempted, registered, released, reserved, right_keys}
use Rattle.reservations.specs.Conflict.{conflicts}
use Rattle.reservations.specs.Desk.{is_registered, key_of}
use Rattle.reservations.specs.Judged.{after_attention, attention_met, judged, judged_from, judged_in, judged_other, judged_out, unchanged}
use Rattle.reservations.specs.Pages.{keys_page, reservation_page}
use Rattle.reservations.specs.Request.{allocation, has_naca, names_type, request_of, service_action}
use Rattle.reservations.specs.Verdicts.{Judgement, denied, done, refused, shown, told}

-- whether a command of this initiator is kept out by a holder
abbrev pub is_kept_out : State → ℕ → List ℕ → Holder → Bool
is_kept_out d i cdb h = not (h.initiator == i) && conflicts (slice_index cdb 0) h.kind (is_registered d i)

pub record Ways (P : Judgement → Type 0) (d : State) (i : ℕ) (cdb : List ℕ) (sent : DataOut) : Type 0 where
  pub told_way : (s : Sense) → attention_met d i (slice_index cdb 0) ≡ Some s → P (record { verdict = told s; desk = after_attention (Some s) d i })
  pub keys_way : P (unchanged d (shown rule.Keys (take (allocation cdb) (keys_page d))))
  pub reservation_way : P (unchanged d (shown rule.Reservation (take (allocation cdb) (reservation_page d))))
  pub refused_way : (s : Sense) → P (unchanged d (refused s))
  pub key_way : P (unchanged d (denied rule.DenyKey))
  pub holder_way : (h : Holder) → d.holder ≡ Some h → P (unchanged d (denied (rule.DenyHolder h.initiator h.kind)))
  pub admit_way : ((h : Holder) → d.holder ≡ Some h → is_kept_out d i cdb h ≡ false) → P (unchanged d Admit)
  pub register_way : (r : Request) → request_of cdb sent ≡ Ok r → P (record { verdict = done rule.Register; desk = registered d i r.action_key })
  pub reserve_way : (r : Request) → request_of cdb sent ≡ Ok r → names_type r.action ≡ true → is_registered d i ≡ true → d.holder ≡ None
      → P (record { verdict = done rule.Reserve; desk = record d { holder = Some (record { initiator = i; kind = r.kind }) } })
  pub same_way : P (unchanged d (done rule.Reserve))
  pub release_way : P (unchanged d (done rule.Release))
  pub drop_way : (h : Holder) (kind : ℕ) → d.holder ≡ Some h → (h.initiator == i) ≡ true
      → P (record { verdict = done rule.Release; desk = dropped d i kind })
  pub clear_way : is_registered d i ≡ true → P (record { verdict = done rule.Clear; desk = cleared d i })
  pub preempt_way : (r : Request) → request_of cdb sent ≡ Ok r → names_type r.action ≡ true → is_registered d i ≡ true
      → P (record { verdict = done rule.Preempt; desk = preempted d i r.kind r.action_key })

module _ (P : Judgement → Type 0) (d : State) (i : ℕ) (cdb : List ℕ) (sent : DataOut) (w : Ways P d i cdb sent) where
  by-reserve : (r : Request) (o : Option Holder) → d.holder ≡ o → request_of cdb sent ≡ Ok r → names_type r.action ≡ true
      → is_registered d i ≡ true → P (reserved o d i r.kind)
  by-reserve r None held is names own = w.reserve_way r is names own held
  by-reserve r (Some h) held is names own =
      elim ((h.initiator == i) && (h.kind == r.kind))
      as (λ b. P (cond b (record { verdict = done rule.Reserve; desk = d }) (record { verdict = denied (rule.DenyHolder h.initiator h.kind); desk = d }))) [
        | true ↦ w.same_way
        | false ↦ w.holder_way h held
      ]

  by-type : (h : Holder) (kind : ℕ) (s : Sense) (b : Bool) → d.holder ≡ Some h → (h.initiator == i) ≡ true
      → P (cond (not b) (unchanged d (refused s)) (record { verdict = done rule.Release; desk = dropped d i kind }))
  by-type h kind s true held mine = w.drop_way h kind held mine
  by-type h kind s false held mine = w.refused_way s

  by-mine : (h : Holder) (kind : ℕ) (s : Sense) (b : Bool) → d.holder ≡ Some h → (h.initiator == i) ≡ b
      → P (cond (not b) (record { verdict = done rule.Release; desk = d }) (cond (not (h.kind == kind)) (unchanged d (refused s)) (record { verdict = done rule.Release; desk = dropped d i kind })))
  by-mine h kind s true held mine = by-type h kind s (h.kind == kind) held mine
  by-mine h kind s false held mine = w.release_way

  by-release : (kind : ℕ) (o : Option Holder) → d.holder ≡ o → P (released o d i kind)
  by-release kind None held = w.release_way
  by-release kind (Some h) held = by-mine h kind _ (h.initiator == i) held refl

  by-action : (a : Action) (r : Request) → r.action ≡ a → request_of cdb sent ≡ Ok r
      → right_keys a (key_of d i) r.key (is_anyones d.keys r.action_key) ≡ true → P (acted a d i r)
  by-action Register r a is right = w.register_way r is
  by-action RegisterAndIgnoreExistingKey r a is right = w.register_way r is
  by-action Reserve r a is right = by-reserve r d.holder refl is (ap names_type a) (and_parts _ _ right).0
  by-action Release r a is right = by-release r.kind d.holder refl
  by-action Clear r a is right = w.clear_way (and_parts _ _ right).0
  by-action Preempt r a is right = w.preempt_way r is (ap names_type a) (and_parts _ _ (and_parts _ _ right).0).0

  by-keys : (r : Request) (b : Bool) → request_of cdb sent ≡ Ok r → has_right_keys d i r ≡ b
      → P (cond b (acted r.action d i r) (unchanged d (denied rule.DenyKey)))
  by-keys r true is right = by-action r.action r refl is right
  by-keys r false is right = w.key_way

  by-request : (asked : Result Request Sense) → request_of cdb sent ≡ asked → P (judged_out asked d i)
  by-request (Err s) is = w.refused_way s
  by-request (Ok r) is = by-keys r (has_right_keys d i r) is refl

  by-in : (naca keys reservation : Bool) (s : Sense)
      → P (unchanged d (cond naca (refused s) (cond keys (shown rule.Keys (take (allocation cdb) (keys_page d))) (cond reservation (shown rule.Reservation (take (allocation cdb) (reservation_page d))) (refused s)))))
  by-in true keys reservation s = w.refused_way s
  by-in false true reservation s = w.keys_way
  by-in false false true s = w.reservation_way
  by-in false false false s = w.refused_way s

  by-conflict : (h : Holder) (b : Bool) → d.holder ≡ Some h → is_kept_out d i cdb h ≡ b
      → P (unchanged d (cond b (denied (rule.DenyHolder h.initiator h.kind)) Admit))
  by-conflict h true held out = w.holder_way h held
  by-conflict h false held out =
      w.admit_way (λ k also. let same : h ≡ k = cc in subst (λ (x : Holder). is_kept_out d i cdb x ≡ false) same out)

  by-other : (o : Option Holder) → d.holder ≡ o → P (unchanged d (judged_other o d i (slice_index cdb 0)))
  by-other None held = w.admit_way (λ k also. absurd (cc))
  by-other (Some h) held = by-conflict h (is_kept_out d i cdb h) held refl

  by-code : (asks orders : Bool)
      → P (cond asks (unchanged d (judged_in d cdb)) (cond orders (judged_out (request_of cdb sent) d i) (unchanged d (judged_other d.holder d i (slice_index cdb 0)))))
  by-code true orders = by-in (has_naca cdb) (service_action cdb == 0) (service_action cdb == 1) _
  by-code false true = by-request (request_of cdb sent) refl
  by-code false false = by-other d.holder refl

  by-attention : (o : Option Sense) → attention_met d i (slice_index cdb 0) ≡ o → P (judged_from o d i cdb sent)
  by-attention (Some s) met = w.told_way s met
  by-attention None met = by-code (slice_index cdb 0 == 0x5E) (slice_index cdb 0 == 0x5F)

  pub by-ways : P (judged d i cdb sent)
  by-ways = by-attention (attention_met d i (slice_index cdb 0)) refl
