-- How replies compare, and which deeds an entry is.
use Rattle.std.proofs.Common.{◌≡◌, ◌∙◌, ap, sym, subst, refl, ℕ, Bool, true, false, cond}
use Rattle.std.specs.Prelude.{◌&&◌, ◌||◌, ◌==◌, Option, Some, None, Result}
use Rattle.std.specs.Option.{option_map, option_map_or, option_eq}
use Rattle.std.proofs.lemmas.Bool.{eqb-true}
use Rattle.sense_data.specs.declared.sense.Sense.{Sense}
use Rattle.sense_data.specs.declared.reply.Reply.{Reply}
use Rattle.sense_data.specs.declared.attention.Attention.{Attention}
use Rattle.sense_data.specs.Attentions.{Waiting, attention_sense}
use Rattle.cdb_reader.specs.declared.plan.Plan.{Plan}
use Rattle.cdb_reader.specs.declared.plan.Plan.TheVariants.{Ending}
use Rattle.cdb_reader.specs.Plan.{when}
use Rattle.cdb_reader.specs.Request.{Request}
use Rattle.block_machine.specs.State.{State, Duty}
use Rattle.block_machine.specs.Plans.{first_plan, plan_unless_refused, refusing}
use Rattle.cdb_reader.specs.Replies.{same_sense, same_reply, check_condition}
use Rattle.block_machine.specs.Attentions.{attention_met, passes_attentions}
use Rattle.block_machine.specs.Laws.{succeeds}
use Rattle.block_machine.proofs.Booleans.{both}

-- the plan after a deed that may come
pub when_is : (t : Bool) (plan after : Plan) → when t plan ≡ Some after → (t ≡ true) × (plan ≡ after)
when_is true plan after h = let is : plan ≡ after = cc in (refl, is)
when_is false plan after h = absurd (cc)

same_key : (s t : Sense) → same_sense s t ≡ true → s.key ≡ t.key
same_key s t h = eqb-true s.key t.key (both _ _ (both _ _ (both _ _ (both _ _ h).0).0).0).0

told_same : (a b : ℕ) (x y : Option Sense) → a ≡ b → option_eq same_sense x y ≡ true
    → (a == 0 || (a == 2 && option_map_or (λ s. s.key == 1) x false)) ≡ (b == 0 || (b == 2 && option_map_or (λ s. s.key == 1) y false))
told_same a b None None e h = ap (λ (n : ℕ). n == 0 || (n == 2 && false)) e
told_same a b (Some s) (Some t) e h =
    ap (λ (n : ℕ). n == 0 || (n == 2 && (s.key == 1))) e ∙ ap (λ (k : ℕ). b == 0 || (b == 2 && (k == 1))) (same_key s t h)
told_same a b None (Some t) e h = absurd (cc)
told_same a b (Some s) None e h = absurd (cc)

-- equal replies succeed both, or neither
pub same_succeed : (r s : Reply) → same_reply r s ≡ true → succeeds r ≡ succeeds s
same_succeed r s h = let now = both (r.status == s.status) _ h in told_same r.status s.status r.sense s.sense (eqb-true r.status s.status now.0) now.1

-- a reply that succeeds isn't one that doesn't
pub not_same : (r s : Reply) → same_reply r s ≡ true → succeeds r ≡ true → succeeds s ≡ false → ⊥
not_same r s h k f = let no : true ≡ false = sym k ∙ same_succeed r s h ∙ f in cc

attention_key : (passes : Bool) (o : Option Attention) (sense : Sense) → cond passes None (option_map attention_sense o) ≡ Some sense → sense.key ≡ 6
attention_key true o sense h = absurd (cc)
attention_key false None sense h = absurd (cc)
attention_key false (Some a) sense h = let is : attention_sense a ≡ sense = cc in ap (λ (s : Sense). s.key) (sym is)

-- an end with an attention doesn't succeed
attention_fails : (waiting : Waiting) (i code : ℕ) (sense : Sense) → attention_met waiting i code ≡ Some sense → succeeds (check_condition sense) ≡ false
attention_fails waiting i code sense h = ap (λ (k : ℕ). k == 1) (attention_key (passes_attentions code) _ sense h)

-- what holds of a plan and of an end that doesn't succeed holds of the plan unless an attention is told
after_attention : (P : Plan → Type 0) → ((sense : Sense) → succeeds (check_condition sense) ≡ false → P (Ending (check_condition sense)))
    → (waiting : Waiting) (i code : ℕ) (o : Option Sense) → attention_met waiting i code ≡ o → (plan : Plan) → P plan → P (option_map_or refusing o plan)
after_attention P fails waiting i code None e plan h = h
after_attention P fails waiting i code (Some sense) e plan h = fails sense (attention_fails waiting i code sense e)

-- so what holds of such an end, and of what is owed unless a command is refused, holds of what it owes at its start
pub at_start : (P : Plan → Type 0) → ((sense : Sense) → succeeds (check_condition sense) ≡ false → P (Ending (check_condition sense)))
    → (capacity : ℕ) (s : State) (i : ℕ) (duty : Duty) (asks : Result Request Sense) → duty.asks ≡ asks
    → P (plan_unless_refused capacity s i duty.sent asks) → P (first_plan capacity s i duty)
at_start P fails capacity s i duty asks e h =
    after_attention P fails s.waiting i duty.code _ refl (plan_unless_refused capacity s i duty.sent duty.asks)
    (subst (λ (x : Result Request Sense). P (plan_unless_refused capacity s i duty.sent x)) (sym e) h)
