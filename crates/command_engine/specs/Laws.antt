-- Laws on the needs of a command, the answers to them, and the deeds.
use Rattle.std.specs.Prelude.{◌≡◌, ℕ, ◌+◌, ◌≤◌, IsTrue, Bool, true, List, [], ◌∷◌, ◌++◌, length, Some}
use Rattle.disk_base.specs.Along.{Along}
use Rattle.sense_data.specs.declared.reply.Reply.{Reply}
use Rattle.cdb_reader.specs.declared.plan.Deed.{Deed}
use Rattle.cdb_reader.specs.declared.plan.Deed.TheVariants.{Ended}
use Rattle.cdb_reader.specs.Plan.{plan_after, fulfils}
use Rattle.command_engine.specs.declared.answer.Answer.{Answer}
use Rattle.command_engine.specs.Course.{Course}
use Rattle.command_engine.specs.Standing.{IsCourse}
use Rattle.command_engine.specs.Ending.{ending_of, stays_dirty}
use Rattle.command_engine.specs.Answers.{fits, after, deeds_of, with_page}
use Rattle.command_engine.specs.Bound.{answers_left}

-- an answer, with what only the history knows at it
pub record Answered : Type 0 where
  pub answer : Answer
  pub dirty : Bool
  pub full : Bool

abbrev pub goes_on : Course → Answered → Course
goes_on c a = after c a.answer

abbrev pub Fitting : Course → Answered → Type 0
Fitting c a = IsTrue (fits c a.answer)

-- where a command stands after some answers
abbrev pub course_after : Course → List Answered → Course
course_after c [] = c
course_after c (a ∷ answers) = course_after (goes_on c a) answers

-- the deeds of some answers, with the bytes of a page
abbrev pub deeds_along : List ℕ → Course → List Answered → List Deed
deeds_along page c [] = []
deeds_along page c (a ∷ answers) =
    deeds_of c a.answer (record { page = page; dirty = a.dirty; full = a.full }) ++ deeds_along page (goes_on c a) answers

-- whatever answers fit, one after another, their deeds may come by the plan, and leave of it what the command stands at
abbrev pub DeedsAreThoseOfThePlan : Type 0
DeedsAreThoseOfThePlan =
    (page : List ℕ) (c : Course) (answers : List Answered) → IsCourse c → Along goes_on Fitting c answers
    → plan_after (Some (with_page page c.plan)) (deeds_along page c answers) ≡ Some (with_page page (course_after c answers).plan)

-- where a command has its ending, the deeds with that end fulfil the plan; a block that was to be hardened is dirty then
abbrev pub EndsByThePlan : Type 0
EndsByThePlan =
    (page : List ℕ) (c : Course) (answers : List Answered) (reply : Reply) (dirty : Bool) → IsCourse c
    → Along goes_on Fitting c answers → ending_of (course_after c answers) ≡ Some reply
    → (stays_dirty (course_after c answers).plan (course_after c answers).step ≡ true → dirty ≡ true)
    → IsTrue (fulfils (Some (with_page page c.plan)) (deeds_along page c answers ++ Ended reply dirty ∷ []))

-- no more answers fit, one after another, than are to come at most
abbrev pub TheAnswersComeToAnEnd : Type 0
TheAnswersComeToAnEnd =
    (c : Course) (answers : List Answered) → IsCourse c → Along goes_on Fitting c answers
    → length answers + answers_left (course_after c answers) ≤ answers_left c
