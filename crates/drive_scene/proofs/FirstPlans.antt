-- With what a command begins that meets no attention, while the map is there.
use Rattle.std.proofs.Common.{◌≡◌, ℕ, zero, suc, ◌≤◌, ◌<◌, true, false, cond, ltb, leb, Option, Some, None, refl, ap, ◌∙◌}
use Rattle.std.specs.Prelude.{◌&&◌, ◌==◌, nat_eq, pos, negsuc, ℤ, Ok}
use Rattle.std.specs.Option.{option_map_or, option_eq}
use Rattle.std.proofs.lemmas.Bool.{eq-eqb, le-leb, lt-ltb}
use Rattle.disk_base.specs.declared.command.DataOut.{DataOut}
use Rattle.disk_base.specs.declared.stage.How.{How}
use Rattle.disk_base.specs.declared.stage.How.TheVariants.{Light, Full, Erased}
use Rattle.sense_data.specs.declared.sense.Sense.{Sense}
use Rattle.sense_data.specs.declared.reply.Reply.{Reply}
use Rattle.sense_data.specs.Sense.{sense_of}
use Rattle.cdb_reader.specs.declared.plan.Plan.{Plan}
use Rattle.cdb_reader.specs.declared.plan.Plan.TheVariants.{Ending}
use Rattle.cdb_reader.specs.Replies.{same_reply, same_sense}
use Rattle.cdb_reader.specs.Request.{Request}
use Rattle.command_engine.specs.Ending.{code_by}
use Rattle.block_machine.specs.Attentions.{attention_met}
use Rattle.block_machine.specs.DriveOnly.{tells_recovery}
use Rattle.block_machine.specs.Plans.{first_plan, is_medium, plan_unless_refused, plan_with_map, plan_asked, refusing}
use Rattle.block_machine.specs.State.{State, Duty}
use Rattle.block_machine.proofs.Booleans.{and_both}

-- a plan that isn't a reply alone
abbrev pub IsNoEnding : Plan → Type 0
IsNoEnding (Ending reply) = ⊥
IsNoEnding other = Unit {0}

-- a command that has such a plan met no attention
unmet : (o : Option Sense) (plan : Plan) → IsNoEnding (option_map_or refusing o plan) → option_map_or refusing o plan ≡ plan
unmet None plan more = refl
unmet (Some sense) plan more = absurd more

pub plan_unmet : (capacity i : ℕ) (h : State) (duty : Duty) → IsNoEnding (first_plan capacity h i duty)
    → first_plan capacity h i duty ≡ plan_unless_refused capacity h i duty.sent duty.asks
plan_unmet capacity i h duty more = unmet (attention_met h.waiting i duty.code) (plan_unless_refused capacity h i duty.sent duty.asks) more

-- and while the map is there, the plan is what it asks for
pub plan_there : (capacity i : ℕ) (h : State) (sent : DataOut) (r : Request) → h.corrupt ≡ false
    → plan_with_map capacity h i sent r ≡ plan_asked capacity h i sent r
plan_there capacity i h sent r readable = λ j. cond (readable j && is_medium r) (refusing (sense_of 3 0x31 0x00)) (plan_asked capacity h i sent r)

pub plan_of_request : (capacity i : ℕ) (h : State) (duty : Duty) (r : Request) → h.corrupt ≡ false → duty.asks ≡ Ok r
    → IsNoEnding (first_plan capacity h i duty) → first_plan capacity h i duty ≡ plan_asked capacity h i duty.sent r
plan_of_request capacity i h duty r readable asks more =
    plan_unmet capacity i h duty more ∙ (ap (plan_unless_refused capacity h i duty.sent) asks ∙ plan_there capacity i h duty.sent r readable)

-- a reply is the same as itself
same_information : (o : Option ℕ) → option_eq nat_eq o o ≡ true
same_information None = refl
same_information (Some n) = eq-eqb n n refl

same_sense-own : (x : Sense) → same_sense x x ≡ true
same_sense-own x =
    and_both (x.key == x.key && option_eq nat_eq x.information x.information && x.specific == x.specific && x.asc == x.asc) (x.ascq == x.ascq)
    (and_both (x.key == x.key && option_eq nat_eq x.information x.information && x.specific == x.specific) (x.asc == x.asc)
    (and_both (x.key == x.key && option_eq nat_eq x.information x.information) (x.specific == x.specific)
    (and_both (x.key == x.key) (option_eq nat_eq x.information x.information) (eq-eqb x.key x.key refl) (same_information x.information))
    (eq-eqb x.specific x.specific refl)) (eq-eqb x.asc x.asc refl)) (eq-eqb x.ascq x.ascq refl)

same_senses : (o : Option Sense) → option_eq same_sense o o ≡ true
same_senses None = refl
same_senses (Some x) = same_sense-own x

pub same_reply-own : (r : Reply) → same_reply r r ≡ true
same_reply-own r = and_both (r.status == r.status) (option_eq same_sense r.sense r.sense) (eq-eqb r.status r.status refl) (same_senses r.sense)

-- a recovery of a block of a range is told of it
pub tells : (how : How) (offset : ℤ) (from end b : ℕ) → from ≤ b → b < end → tells_recovery from end (record (code_by how offset) { information = Some b }) ≡ true
tells Light (pos zero) from end b low high = and_both (leb from b) (ltb b end) (le-leb from b low) (lt-ltb b end high)
tells Light (pos (suc n)) from end b low high = and_both (leb from b) (ltb b end) (le-leb from b low) (lt-ltb b end high)
tells Light (negsuc n) from end b low high = and_both (leb from b) (ltb b end) (le-leb from b low) (lt-ltb b end high)
tells Full offset from end b low high = and_both (leb from b) (ltb b end) (le-leb from b low) (lt-ltb b end high)
tells Erased offset from end b low high = and_both (leb from b) (ltb b end) (le-leb from b low) (lt-ltb b end high)
