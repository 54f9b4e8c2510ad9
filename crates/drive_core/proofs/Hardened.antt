-- A command that meets a block dirty can be told that it was hardened.
use Rattle.std.proofs.Common.{◌≡◌, ℕ, ◌<◌, ◌≤◌, Bool, true, false, not, cond, ltb, List, Option, Some, None, refl, sym, ap, ◌∙◌, subst}
use Rattle.std.specs.Prelude.{IsTrue, IsSomeAnd, ◌&&◌}
use Rattle.std.specs.Option.{option_and_then}
use Rattle.disk_base.specs.declared.address.Lba.{Lba}
use Rattle.disk_base.specs.declared.stage.Stage.{Stage}
use Rattle.mode_pages.specs.declared.settings.Settings.{Settings}
use Rattle.read_recovery.specs.Stages.{Progress, next_stage}
use Rattle.cdb_reader.specs.declared.plan.Reading as reading
use Rattle.cdb_reader.specs.declared.plan.Syncing as syncing
use Rattle.cdb_reader.specs.declared.plan.Writing as writing
use Rattle.std.proofs.lemmas.Bool.{eqb-true, ltb-true, leb-true, lt-ltb}
use Rattle.block_machine.proofs.Booleans.{both, not_is}
use Rattle.cdb_reader.specs.declared.plan.Plan.{Plan}
use Rattle.cdb_reader.specs.declared.plan.Plan.TheVariants.{Ending, Unread, Answering, Changing, Reading, Writing, Syncing, Moving, Over}
use Rattle.command_engine.specs.declared.answer.Answer.TheVariants.{Hardened, NextDirty}
use Rattle.command_engine.specs.declared.need.Need.TheVariants as need
use Rattle.command_engine.specs.declared.step.Step.{Step}
use Rattle.command_engine.specs.declared.step.Step.TheVariants.{Trying, Hardening}
use Rattle.command_engine.specs.declared.step.Recovery.{Recovery}
use Rattle.command_engine.specs.Course.{Course}
use Rattle.command_engine.specs.declared.need.Need.{Need}
use Rattle.command_engine.specs.declared.answer.Answer.{Answer}
use Rattle.command_engine.specs.Need.{need_by, taking, need_at_write}
use Rattle.command_engine.specs.Answers.{fits, fits_need, after, is_hardened}
use Rattle.drive_core.specs.Accepting.{accepted_of, under_way, Replaces}
use Rattle.drive_core.specs.declared.accepted.Accepted.{Accepted}
use Rattle.drive_core.specs.Served.{is_served_plan}

-- what it may harden: the next block of a read that goes through, or a block of a sync's range
pub data IsMet (b : Lba) : Plan → Step → Type 0 where
  read : (r : reading.Reading) (p : Progress) → r.at < r.end → r.through ≡ true → r.hardened ≡ false → b.0 ≡ r.at → IsMet b (Reading r) (Trying p)
  sync : (y : syncing.Syncing) (p : Progress) → y.at ≤ b.0 → b.0 < y.end → IsMet b (Syncing y) (Trying p)

if_left : (moves hardened left : Bool) (n : Need) (b : Lba) → fits_need moves hardened (cond left n need.Nothing) (NextDirty (Some b)) ≡ true
    → (left ≡ true) × (fits_need moves hardened n (NextDirty (Some b)) ≡ true)
if_left moves hardened true n b is = (refl, is)
if_left moves hardened false n b is = absurd (cc)

at_stage : (moves : Bool) (b : Lba) (r : reading.Reading) (p : Progress) (o : Option Stage) → r.at < r.end
    → fits_need moves r.hardened (taking r o) (NextDirty (Some b)) ≡ true → IsMet b (Reading r) (Trying p)
at_stage moves b r p None left is = absurd (cc)
at_stage moves b r p (Some stage) left is =
    let tests = both _ _ is in
    let two = both r.through (not r.hardened) tests.0 in
    read r p left two.0 (not_is r.hardened two.1) (eqb-true b.0 r.at tests.1)

not_put : (moves hardened through : Bool) (one other b : Lba) → fits_need moves hardened (cond through (need.PutThrough one) (need.Put other)) (NextDirty (Some b)) ≡ true → ⊥
not_put moves hardened true one other b is = cc
not_put moves hardened false one other b is = cc

at_write : (moves hardened : Bool) (b : Lba) (w : writing.Writing) (step : Step) → fits_need moves hardened (need_at_write w step) (NextDirty (Some b)) ≡ true → ⊥
at_write moves hardened b w (Trying p) is = not_put moves hardened w.through (record { 0 = w.at }) (record { 0 = w.at }) b is
at_write moves hardened b w Hardening is = cc
at_write moves hardened b w other is = cc

met : (moves : Bool) (b : Lba) (plan : Plan) (moved : ℕ) (step : Step) → is_served_plan plan ≡ true → fits_need moves (is_hardened plan) (need_by plan moved step) (NextDirty (Some b)) ≡ true → IsMet b plan step
met moves b (Ending reply) moved step served is = absurd (cc)
met moves b (Unread at) moved step served is = absurd (cc)
met moves b (Answering bytes reply) moved step served is = absurd (cc)
met moves b Changing moved step served is = absurd (cc)
met moves b (Moving m) moved step served is = absurd (cc)
met moves b Over moved step served is = absurd (cc)
met moves b (Writing w) moved step served is = absurd (at_write moves false b w step (if_left moves false (ltb w.at w.end) (need_at_write w step) b is).1)
met moves b (Reading r) moved (Trying p) served is =
    let left = if_left moves r.hardened (ltb r.at r.end) (taking r (next_stage p)) b is in
    at_stage moves b r p (next_stage p) (ltb-true r.at r.end left.0) left.1
met moves b (Reading r) moved Hardening served is = absurd (let left = if_left moves r.hardened (ltb r.at r.end) (need.Harden (record { 0 = r.at })) b is in let never = left.1 in cc)
met moves b (Reading r) moved other served is = absurd (let left = if_left moves r.hardened (ltb r.at r.end) need.Nothing b is in let never = left.1 in cc)
met moves b (Syncing y) moved (Trying p) served is =
    let left = if_left moves false (ltb y.at y.end) (need.Pass (record { 0 = y.at }) (record { 0 = y.end })) b is in
    let tests = both _ _ left.1 in
    sync y p (leb-true y.at b.0 tests.0) (ltb-true b.0 y.end tests.1)
met moves b (Syncing y) moved Hardening served is = absurd (let left = if_left moves false (ltb y.at y.end) (need.Harden (record { 0 = y.at })) b is in let never = left.1 in cc)
met moves b (Syncing y) moved other served is = absurd (let left = if_left moves false (ltb y.at y.end) need.Nothing b is in let never = left.1 in cc)

pub met_dirty : (w : Course) (b : Lba) → is_served_plan w.plan ≡ true → IsTrue (fits w (NextDirty (Some b))) → IsMet b w.plan w.step
met_dirty w b served is = met w.settings.awre b w.plan w.moved w.step served is

then_fits : (settings : Settings) (gives : Bool) (moved : ℕ) (recovered : Option Recovery) (b : Lba) (plan : Plan) (step : Step) → IsMet b plan step
    → IsTrue (fits (after (record { settings = settings; gives = gives; moved = moved; plan = plan; step = step; recovered = recovered }) (NextDirty (Some b))) Hardened)
then_fits settings gives moved recovered b plan step (read r p left through hardened at) =
    ap (λ (t : Bool). fits_need settings.awre r.hardened (cond t (need.Harden (record { 0 = r.at })) need.Nothing) Hardened) (lt-ltb r.at r.end left)
then_fits settings gives moved recovered b plan step (sync y p low high) =
    ap (λ (t : Bool). fits_need settings.awre false (cond t (need.Harden (record { 0 = b.0 })) need.Nothing) Hardened) (lt-ltb b.0 y.end high)

pub hardened_fits : (w : Course) (b : Lba) → is_served_plan w.plan ≡ true → IsTrue (fits w (NextDirty (Some b))) → IsTrue (fits (after w (NextDirty (Some b))) Hardened)
hardened_fits w b served fit = then_fits w.settings w.gives w.moved w.recovered b w.plan w.step (met_dirty w b served fit)

-- of a command that is under way
pub fits_course : (o : Option Course) (b : Lba) → IsSomeAnd o (λ w. IsTrue (is_served_plan w.plan && fits w (NextDirty (Some b))))
    → (w : Course) × (o ≡ Some w) × IsTrue (is_served_plan w.plan && fits w (NextDirty (Some b)))
fits_course None b fit = absurd fit
fits_course (Some w) b fit = (w, refl, fit)

pub some_fits : (o : Option Course) (w : Course) (answer : Answer) → o ≡ Some w → IsTrue (fits w answer) → IsSomeAnd o (λ v. IsTrue (fits v answer))
some_fits o w answer is fit = subst (λ (p : Option Course). IsSomeAnd p (λ v. IsTrue (fits v answer))) (sym is) fit

-- one change after another
pub replaces-twice : (xs ys zs : List Accepted) (c : ℕ) (a b : Accepted) → Replaces xs ys c a → Replaces ys zs c b → Replaces xs zs c b
replaces-twice xs ys zs c a b first second = record {
  own = second.own;
  others = λ q other. second.others q other ∙ first.others q other;
}

-- where a command that is in is under way
pub working_of : (xs : List Accepted) (c : ℕ) (w : Course) → under_way xs c ≡ Some w → (a : Accepted) × (accepted_of xs c ≡ Some a) × (a.work ≡ Some w)
working_of xs c w is = by (accepted_of xs c) refl is
  where
    by : (o : Option Accepted) → accepted_of xs c ≡ o → option_and_then (λ a. a.work) o ≡ Some w → (a : Accepted) × (accepted_of xs c ≡ Some a) × (a.work ≡ Some w)
    by None there is_work = absurd (cc)
    by (Some a) there is_work = (a, there, is_work)
