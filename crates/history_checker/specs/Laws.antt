-- What holds of every history that a script allows.
use Rattle.std.specs.Prelude.{◌≡◌, ℕ, ◌+◌, ◌==◌, ◌&&◌, ◌||◌, Bool, true, false, IsTrue, List, [], ◌∷◌, ◌++◌, filter}
use Rattle.std.specs.List.{list_any}
use Rattle.platter_model.specs.declared.world.World.{World as Event}
use Rattle.block_machine.specs.declared.entry.Entry.{Entry}
use Rattle.block_machine.specs.declared.entry.Entry.TheVariants.{Cut, PoweredOn}
use Rattle.block_machine.specs.declared.turn.Label.{Label}
use Rattle.block_machine.specs.declared.turn.Label.TheVariants.{Arrive, World}
use Rattle.block_machine.specs.declared.turn.Turn.{Turn}
use Rattle.block_machine.specs.Attentions.{initiators}
use Rattle.block_machine.specs.History.{entries_of, legal}
use Rattle.block_machine.specs.Laws.{tally_of}
use Rattle.script_text.specs.declared.script.Line.{Line}
use Rattle.script_text.specs.declared.script.Script.{Script}
use Rattle.history_checker.specs.Good.{array_good, course_of, may_come}
use Rattle.history_checker.specs.Parts.{Part, capacity_of, lines_of, parts_behind}
use Rattle.history_checker.specs.Parts.Part.{Phase, Outside}
use Rattle.history_checker.specs.Same.{same_world, tells}
use Rattle.history_checker.specs.Walk.{is_arrival, sender_of}

-- a fact of a script and of turns that it allows
abbrev pub OfGoodHistories : (Script → List Turn → Type 0) → Type 0
OfGoodHistories Fact = (script : Script) (turns : List Turn) → IsTrue (array_good script turns) → Fact script turns

-- a law: they are a legal history of an array of the script's blocks
abbrev pub AreLegal : Script → List Turn → Type 0
AreLegal script turns = IsTrue (legal (capacity_of script) turns)

-- a law: as many commands came as ended, were aborted by a function and were cut off
abbrev pub AreAccountedFor : Script → List Turn → Type 0
AreAccountedFor script turns =
    (tally_of (entries_of turns)).came ≡ (tally_of (entries_of turns)).ended + (tally_of (entries_of turns)).aborted + (tally_of (entries_of turns)).cut

-- the turn is an arrival, or from outside
abbrev pub is_of_script : Label → Bool
is_of_script (Arrive i) = true
is_of_script (World event) = true
is_of_script other = false

-- a law: behind them no arrival may come, and nothing from outside
abbrev pub NoneMayFollow : Script → List Turn → Type 0
NoneMayFollow script turns = (turn : Turn) → IsTrue (is_of_script turn.label)
    → may_come (capacity_of script) (course_of (capacity_of script) script.lines turns) turn ≡ false

-- an initiator's commands and functions that came by turns, in order
abbrev pub arrivals_from : ℕ → List Entry → List Entry
arrivals_from i entries = filter (λ e. is_arrival e && (sender_of e == i)) entries

-- entries tell these lines, one by one
abbrev pub tell_all : List Entry → List Line → Bool
tell_all [] [] = true
tell_all (entry ∷ entries) (line ∷ lines) = tells entry line && tell_all entries lines
tell_all entries lines = false

-- the power goes off
abbrev pub goes_off : Entry → Bool
goes_off Cut = true
goes_off other = false

-- a law: where the power never goes off, each initiator's commands and functions that came are all of the script's, in order
abbrev pub AllHaveCome : Script → List Turn → Type 0
AllHaveCome script turns = list_any goes_off (entries_of turns) ≡ false → (i : ℕ) → IsTrue (list_any (λ j. j == i) initiators)
    → IsTrue (tell_all (arrivals_from i (entries_of turns)) (lines_of i script.lines))

-- entries tell the first of these lines, one by one
abbrev pub tell_front : List Entry → List Line → Bool
tell_front [] lines = true
tell_front (entry ∷ entries) (line ∷ lines) = tells entry line && tell_front entries lines
tell_front entries lines = false

-- entries tell some of these lines, in their order
abbrev pub tell_some : List Entry → List Line → Bool
tell_some [] lines = true
tell_some (entry ∷ entries) [] = false
tell_some (entry ∷ entries) (line ∷ lines) = (tells entry line && tell_some entries lines) || tell_some (entry ∷ entries) lines

-- a law: whatever the power does, the commands and functions that came are the script's, each initiator's in order and none twice
abbrev pub AreOfScript : Script → List Turn → Type 0
AreOfScript script turns = (i : ℕ) → IsTrue (tell_some (arrivals_from i (entries_of turns)) (lines_of i script.lines))

-- whether the power is on behind entries, on or off before them
abbrev pub power_behind : Bool → List Entry → Bool
power_behind on [] = on
power_behind on (Cut ∷ entries) = power_behind false entries
power_behind on (PoweredOn outcome ∷ entries) = power_behind true entries
power_behind on (entry ∷ entries) = power_behind on entries

-- the turn is of something from outside
abbrev pub is_outside : Label → Bool
is_outside (World event) = true
is_outside other = false

-- the turn is of this event from outside
abbrev pub is_event : Event → Label → Bool
is_event event (World happened) = same_world event happened
is_event event other = false

-- by these turns no command or function comes, and nothing from outside
abbrev pub NothingComes : List Turn → Type 0
NothingComes turns = (list_any is_arrival (entries_of turns) ≡ false) × (list_any (λ turn. is_outside turn.label) turns ≡ false)

-- the first turns are of a phase that begins with the power on or off, and in which these lines of each initiator are due
pub record InPhase (on : Bool) (due : ℕ → List Line) (turns now later : List Turn) : Type 0 where
  pub are : turns ≡ now ++ later
  pub inside : list_any (λ turn. is_outside turn.label) now ≡ false
  -- what comes are the first of each initiator's, in order
  pub first : (i : ℕ) → IsTrue (tell_front (arrivals_from i (entries_of now)) (due i))
  -- and all of them, where the power is on and never goes off
  pub all : on ≡ true → list_any goes_off (entries_of now) ≡ false → (i : ℕ) → IsTrue (list_any (λ j. j == i) initiators)
      → IsTrue (tell_all (arrivals_from i (entries_of now)) (due i))

-- behind some turns by which nothing comes, this is the turn of what happens from outside
pub record AtEvent (event : Event) (turns before : List Turn) (turn : Turn) (later : List Turn) : Type 0 where
  pub are : turns ≡ before ++ turn ∷ later
  pub nothing : NothingComes before
  pub happens : IsTrue (is_event event turn.label)
  pub alone : list_any is_arrival turn.entries ≡ false

-- turns fall to the parts of a script, one after another
abbrev pub FallTo : Bool → List Part → List Turn → Type 0
FallTo on [] turns = NothingComes turns
FallTo on (Phase lines ∷ parts) turns =
    (now : List Turn) × (later : List Turn) × InPhase on (λ i. lines_of i lines) turns now later
    × FallTo (power_behind on (entries_of now)) parts later
FallTo on (Outside event ∷ parts) turns =
    (before : List Turn) × (turn : Turn) × (later : List Turn) × AtEvent event turns before turn later
    × FallTo (power_behind (power_behind on (entries_of before)) turn.entries) parts later

-- a law: what of the script didn't come stands in a phase with a cut, or in one that began with the power off
abbrev pub AreLeftByCuts : Script → List Turn → Type 0
AreLeftByCuts script turns = FallTo true (parts_behind [] script.lines) turns
