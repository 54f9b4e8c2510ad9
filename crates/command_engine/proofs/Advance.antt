-- Where a command stands after an answer, from its parts.
use Rattle.std.proofs.Common.{◌≡◌, ◌<◌, ◌≤◌, ℕ, Bool, Some, refl, subst, IsTrue}
use Rattle.std.specs.Prelude.{Option}
use Rattle.disk_base.specs.declared.address.Lba.{Lba}
use Rattle.cdb_reader.specs.declared.plan.Plan.{Plan}
use Rattle.cdb_reader.specs.Plan.{plan_after}
use Rattle.command_engine.specs.declared.answer.Answer.{Answer}
use Rattle.command_engine.specs.declared.step.Recovery.{Recovery}
use Rattle.command_engine.specs.declared.step.Step.{Step}
use Rattle.command_engine.specs.Course.{Course}
use Rattle.command_engine.specs.Need.{end_of}
use Rattle.command_engine.specs.Standing.{IsCourse}
use Rattle.command_engine.specs.Answers.{Known, fits, after, gives_up, is_moving, settled, owed_after, moved_after, step_after, recovered_after, deeds_of, with_page}
use Rattle.command_engine.specs.Bound.{answers_left}
use Rattle.command_engine.proofs.Answering.{one, nearer}
use Rattle.command_engine.proofs.Keeps.{still}
use Rattle.command_engine.proofs.Ranges.{narrower}

-- what holds of a command after an answer
pub record Advances (old : Course) (a : Answer) (new : Course) : Type 0 where
  pub still : IsCourse new
  pub owes : (known : Known) → plan_after (Some (with_page known.page old.plan)) (deeds_of old a known) ≡ Some (with_page known.page new.plan)
  pub nearer : answers_left new < answers_left old
  pub range : end_of new.plan ≤ end_of old.plan

pub advances : (c : Course) (a : Answer) → IsCourse c → IsTrue (fits c a) → Advances c a (after c a)
advances c a is fit = record { still = still c a is fit; owes = λ known. one known c a is fit; nearer = nearer c a is fit; range = narrower c a is fit }

advanced : (c : Course) (a : Answer) (plan : Plan) (moved : ℕ) (step : Step) (recovered : Option Recovery) (lost : Bool) (hardens : Option Lba) → lost ≡ gives_up c.step a → hardens ≡ settled c.plan c.moved c.step → plan ≡ owed_after c.plan lost hardens a → moved ≡ moved_after (is_moving c.plan) c.moved a
    → step ≡ step_after c.settings.retry (is_moving c.plan) c.step a → recovered ≡ recovered_after c.plan c.step a c.recovered
    → after c a ≡ record { settings = c.settings; gives = c.gives; plan = plan; moved = moved; step = step; recovered = recovered }
advanced c a plan moved step recovered lost hardens lost_is hardens_is plan_is moved_is step_is recovered_is = rw (plan_is, moved_is, lost_is, hardens_is, step_is, recovered_is) refl

pub advances_by : (c : Course) (a : Answer) (plan : Plan) (moved : ℕ) (step : Step) (recovered : Option Recovery) (lost : Bool) (hardens : Option Lba) → lost ≡ gives_up c.step a → hardens ≡ settled c.plan c.moved c.step
    → plan ≡ owed_after c.plan lost hardens a → moved ≡ moved_after (is_moving c.plan) c.moved a → step ≡ step_after c.settings.retry (is_moving c.plan) c.step a → recovered ≡ recovered_after c.plan c.step a c.recovered
    → IsCourse c → IsTrue (fits c a) → Advances c a (record { settings = c.settings; gives = c.gives; plan = plan; moved = moved; step = step; recovered = recovered })
advances_by c a plan moved step recovered lost hardens lost_is hardens_is plan_is moved_is step_is recovered_is is fit =
    subst (λ (new : Course). Advances c a new) (advanced c a plan moved step recovered lost hardens lost_is hardens_is plan_is moved_is step_is recovered_is) (advances c a is fit)
