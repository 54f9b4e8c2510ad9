-- The laws on lists of answers.
use Rattle.std.proofs.Common.{◌≡◌, ◌<◌, List, [], ◌∷◌, ◌++◌, Some, None, refl, ap, ◌∙◌, arith, IsTrue}
use Rattle.std.specs.Prelude.{Option}
use Rattle.disk_base.specs.Along.{Along}
use Rattle.cdb_reader.specs.declared.plan.Plan.{Plan}
use Rattle.cdb_reader.specs.declared.plan.Deed.{Deed}
use Rattle.cdb_reader.specs.declared.plan.Deed.TheVariants.{Ended}
use Rattle.cdb_reader.specs.Plan.{plan_after, next, is_over}
use Rattle.command_engine.specs.declared.answer.Answer.{Answer}
use Rattle.command_engine.specs.Course.{Course}
use Rattle.command_engine.specs.Standing.{IsCourse}
use Rattle.command_engine.specs.Answers.{Known, fits, after, deeds_of, with_page}
use Rattle.command_engine.specs.Bound.{answers_left}
use Rattle.command_engine.specs.Laws.{Answered, goes_on, Fitting, course_after, deeds_along, DeedsAreThoseOfThePlan, EndsByThePlan, TheAnswersComeToAnEnd}
use Rattle.command_engine.proofs.Fit.{fit_of}
use Rattle.command_engine.proofs.Owes.{owes}
use Rattle.command_engine.proofs.Keeps.{still}
use Rattle.command_engine.proofs.Nearer.{near}
use Rattle.command_engine.proofs.Endings.{ends}

-- the plan after deeds, and then others
plan_after-append : (plan : Option Plan) (first others : List Deed) → plan_after plan (first ++ others) ≡ plan_after (plan_after plan first) others
plan_after-append None first [] = refl
plan_after-append None first (deed ∷ others) = refl
plan_after-append (Some plan) [] others = refl
plan_after-append (Some plan) (deed ∷ first) others = plan_after-append (next plan deed) first others

-- the deeds of one answer
pub one : (known : Known) (c : Course) (a : Answer) → IsCourse c → IsTrue (fits c a)
    → plan_after (Some (with_page known.page c.plan)) (deeds_of c a known) ≡ Some (with_page known.page (after c a).plan)
one known c a is fit = owes c.settings.retry c.moved known c.plan c.step a (fit_of c.settings.awre c.moved c.plan c.step a fit) is.under_way

-- one answer less
pub nearer : (c : Course) (a : Answer) → IsCourse c → IsTrue (fits c a) → answers_left (after c a) < answers_left c
nearer c a is fit = near c.settings.retry c.moved c.plan c.step a (fit_of c.settings.awre c.moved c.plan c.step a fit) is.under_way

pub beginning : DeedsAreThoseOfThePlan
beginning page c [] is fitting = refl
beginning page c (a ∷ answers) is fitting =
    let known : Known = record { page = page; dirty = a.dirty; full = a.full } in
    plan_after-append (Some (with_page page c.plan)) (deeds_of c a.answer known) (deeds_along page (goes_on c a) answers)
    ∙ ap (λ plan. plan_after plan (deeds_along page (goes_on c a) answers)) (one known c a.answer is fitting.0)
    ∙ beginning page (goes_on c a) answers (still c a.answer is fitting.0) fitting.1

-- what holds of a command still holds after some answers
still_along : (c : Course) (answers : List Answered) → IsCourse c → Along goes_on Fitting c answers → IsCourse (course_after c answers)
still_along c [] is fitting = is
still_along c (a ∷ answers) is fitting = still_along (goes_on c a) answers (still c a.answer is fitting.0) fitting.1

pub ending : EndsByThePlan
ending page c answers reply dirty is fitting ends_so faulted =
    let all = plan_after-append (Some (with_page page c.plan)) (deeds_along page c answers) (Ended reply dirty ∷ []) in
    let there = ap (λ plan. plan_after plan (Ended reply dirty ∷ [])) (beginning page c answers is fitting) in
    ap is_over (all ∙ there ∙ ends page (course_after c answers) reply dirty (still_along c answers is fitting) ends_so faulted)

pub fewer : TheAnswersComeToAnEnd
fewer c [] is fitting = omega arith
fewer c (a ∷ answers) is fitting =
    omega (arith, fewer (goes_on c a) answers (still c a.answer is fitting.0) fitting.1, nearer c a.answer is fitting.0)
