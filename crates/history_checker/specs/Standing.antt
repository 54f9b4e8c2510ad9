-- What the program keeps of a walk, beside the walk of the definition.
use Rattle.std.specs.Prelude.{◌≡◌, ℕ, ◌+◌, ◌-◌, ◌<◌, ◌≤◌, ◌&&◌, not, if◌then◌else◌, Bool, true, false, IsTrue, List, [], ◌∷◌, drop, length, slice_index, slice_range}
use Rattle.script_text.specs.declared.script.Line.{Line}
use Rattle.script_text.specs.declared.script.Line.TheVariants.{Go, World}
use Rattle.script_text.specs.Standing.{is_world}
use Rattle.history_checker.specs.declared.walk.Walk as kept
use Rattle.history_checker.specs.Parts.{Part, is_from, lines_of, parts_behind}
use Rattle.history_checker.specs.Parts.Part.{Phase, Outside}
use Rattle.history_checker.specs.Walk.{Place, Walk, is_done, is_empty, left_of, next_lines, none_came}

-- a line that ends those that wait, for a phase or for what happens from outside
abbrev pub is_stop : Line → Bool
is_stop Go = true
is_stop (World event) = true
is_stop other = false

-- what is left of a script at a place: nothing, or a line that passes a test and those behind it
abbrev pub BeginsWith : (Line → Bool) → List Line → Type 0
BeginsWith test [] = Unit {0}
BeginsWith test (line ∷ lines) = IsTrue (test line)

-- an initiator's lines from a place to another are these, and this is where the first of them stands
pub record StandsFirst (lines : List Line) (i at stop : ℕ) (left : List Line) : Type 0 where
  pub within : at ≤ stop
  pub are : left ≡ lines_of i (slice_range lines at stop)
  pub first : at < stop → BeginsWith (is_from i) (drop at lines)

-- what is left begins with a line that passes a test
abbrev pub begins_with : (Line → Bool) → List Line → Bool
begins_with test [] = false
begins_with test (line ∷ lines) = test line

-- where something is left of the script: the lines that wait before the place where they end, and each initiator's next line
pub record IsAhead (lines : List Line) (stop : ℕ) (next : List ℕ) (place : Place) : Type 0 where
  pub waiting : List Line
  pub ahead : place.ahead ≡ parts_behind waiting (drop stop lines)
  pub stops : BeginsWith is_stop (drop stop lines)
  pub few : (i : ℕ) → place.came i ≤ length (lines_of i waiting)
  pub each : (k : ℕ) → k < 8 → StandsFirst lines (k + 1) (slice_index next k) stop (left_of place.came waiting (k + 1))

abbrev pub IsPlace : Bool → List Line → ℕ → List ℕ → Place → Type 0
IsPlace true lines stop next place = place.ahead ≡ []
IsPlace false lines stop next place = IsAhead lines stop next place

-- what is kept stands for a walk along these lines
pub record Keeps (lines : List Line) (walk : kept.Walk) (w : Walk) : Type 0 where
  pub on : walk.is_on ≡ w.on
  pub armed : walk.is_armed ≡ w.armed
  pub bound : walk.stop ≤ length lines
  pub eight : length walk.next ≡ 8
  pub place : IsPlace walk.is_over lines walk.stop walk.next w.place

-- a phase is ahead
abbrev pub is_phase_ahead : List Line → kept.Walk → Bool
is_phase_ahead lines walk = not walk.is_over && not (begins_with is_world (drop walk.stop lines))

-- how many lines are left, and one where something is
abbrev pub lines_left : List Line → kept.Walk → ℕ
lines_left lines walk = if walk.is_over then 0 else length lines + 1 - walk.stop

-- the first of these parts is a phase that is done
abbrev pub done_first : Bool → Bool → (ℕ → ℕ) → List Part → Bool
done_first on idle came [] = false
done_first on idle came (Outside event ∷ parts) = false
done_first on idle came (Phase lines ∷ parts) = is_done on idle came lines

abbrev pub is_done_first : Bool → Walk → Bool
is_done_first idle walk = done_first walk.on idle walk.place.came walk.place.ahead

-- behind the part that is ahead, which is a phase
abbrev pub past_first : Walk → Walk
past_first walk = record walk { place = record { ahead = drop 1 walk.place.ahead; came = none_came } }

-- something from outside is to happen next
abbrev pub is_outside_first : List Part → Bool
is_outside_first [] = false
is_outside_first (Phase lines ∷ parts) = false
is_outside_first (Outside event ∷ parts) = true

-- an initiator has a line left in the phase that is ahead
abbrev pub has_next : Place → ℕ → Bool
has_next place i = not (is_empty (next_lines place.came place.ahead i))
