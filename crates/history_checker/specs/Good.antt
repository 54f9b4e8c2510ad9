-- Which histories a script allows, and what is wrong with another.
use Rattle.std.specs.Prelude.{ℕ, ◌+◌, ◌==◌, ◌&&◌, Bool, if◌then◌else◌, List, [], ◌∷◌, drop, fold, length, take, Option, Some, None, unwrap_or}
use Rattle.disk_base.specs.Along.{all_along, first_failing}
use Rattle.block_machine.specs.declared.turn.Turn.{Turn}
use Rattle.block_machine.specs.Attentions.{attentions_at_start}
use Rattle.block_machine.specs.State.{State, state_at_start}
use Rattle.block_machine.specs.Turns.{turn_after, turn_lawful}
use Rattle.script_text.specs.declared.script.Line.{Line}
use Rattle.script_text.specs.declared.script.Script.{Script}
use Rattle.history_checker.specs.declared.verdict.Flaw.{Flaw}
use Rattle.history_checker.specs.declared.verdict.Flaw.TheVariants.{Order, Step, Left}
use Rattle.history_checker.specs.declared.verdict.Verdict.{Verdict}
use Rattle.history_checker.specs.declared.verdict.Verdict.TheVariants.{Yes, No}
use Rattle.history_checker.specs.Parts.{capacity_of}
use Rattle.history_checker.specs.Walk.{Walk, is_over, walk_after, walk_allows, walk_at_start}

-- what turns have come to: as a history of an array of blocks, and along the script
pub record Course : Type 0 where
  pub history : State
  pub walk : Walk

abbrev pub course_at_start : List Line → Course
course_at_start lines = record { history = state_at_start attentions_at_start; walk = walk_at_start lines }

-- no command is in
abbrev pub is_idle : State → Bool
is_idle s = length s.set == 0

abbrev pub course_after : ℕ → Course → Turn → Course
course_after capacity c turn = record {
  history = turn_after capacity c.history turn;
  walk = walk_after (is_idle c.history) c.walk turn;
}

-- a turn may come next, along the script and of the history
abbrev pub may_come : ℕ → Course → Turn → Bool
may_come capacity c turn = walk_allows (is_idle c.history) c.walk turn && turn_lawful capacity c.history turn

-- what turns come to
abbrev pub course_of : ℕ → List Line → List Turn → Course
course_of capacity lines turns = fold (course_after capacity) (course_at_start lines) turns

-- nothing is left of the script
abbrev pub is_finished : Course → Bool
is_finished c = is_over (is_idle c.history) c.walk

-- lines of a script, on a unit of so many blocks, allow these turns: they are a legal history, and walk along the script to its end
abbrev pub is_good : ℕ → List Line → List Turn → Bool
is_good capacity lines turns =
    all_along (course_after capacity) (may_come capacity) (course_at_start lines) turns && is_finished (course_of capacity lines turns)

-- the script allows these turns
abbrev pub array_good : Script → List Turn → Bool
array_good script turns = is_good (capacity_of script) script.lines turns

-- how many turns come before the first that may not
abbrev pub turns_allowed : ℕ → List Line → List Turn → ℕ
turns_allowed capacity lines turns =
    unwrap_or (first_failing (course_after capacity) (may_come capacity) (course_at_start lines) turns) (length turns)

-- what is wrong with the turn that comes next; behind the last turn, that something is left of the script
abbrev pub flaw_next : Course → List Turn → Option Flaw
flaw_next c [] = if is_finished c then None else Some Left
flaw_next c (turn ∷ turns) = Some (if walk_allows (is_idle c.history) c.walk turn then Step else Order)

-- the number of a turn, from 1, behind so many, and what is wrong with it
abbrev pub no_at : ℕ → Option Flaw → Verdict
no_at n None = Yes
no_at n (Some why) = No (n + 1) why

-- the first flaw, behind so many turns
abbrev pub flaw_behind : ℕ → List Line → List Turn → ℕ → Verdict
flaw_behind capacity lines turns n = no_at n (flaw_next (course_of capacity lines (take n turns)) (drop n turns))

-- the first flaw where there is one
abbrev pub verdict_by : ℕ → List Line → List Turn → Verdict
verdict_by capacity lines turns = flaw_behind capacity lines turns (turns_allowed capacity lines turns)

abbrev pub verdict_of : Script → List Turn → Verdict
verdict_of script turns = verdict_by (capacity_of script) script.lines turns
