-- A script, cut into what its lines ask for one after another.
use Rattle.std.specs.Prelude.{ℕ, ◌==◌, Bool, false, List, [], ◌∷◌, ◌++◌, filter}
use Rattle.platter_model.specs.declared.world.World.{World as Event}
use Rattle.script_text.specs.declared.script.Line.{Line}
use Rattle.script_text.specs.declared.script.Line.TheVariants.{Command, Function, Go, World}
use Rattle.script_text.specs.declared.script.Script.{Script}
use Rattle.script_text.specs.Measures.{measures_of, given_or_default}
use Rattle.script_text.specs.Standing as standing
use Rattle.std.specs.Option.{option_map}

-- a part of a script: a phase, with the lines that wait when it begins, or something that happens from outside
pub data Part : Type 0 where
  Phase : List Line → Part
  Outside : Event → Part

-- the parts of lines behind some that wait: a phase at each `go` and at the end, and before it what happens from outside
abbrev pub parts_behind : List Line → List Line → List Part
parts_behind waiting [] = Phase waiting ∷ []
parts_behind waiting (Go ∷ lines) = Phase waiting ∷ parts_behind [] lines
parts_behind waiting (World event ∷ lines) = Outside event ∷ parts_behind waiting lines
parts_behind waiting (line ∷ lines) = parts_behind (waiting ++ line ∷ []) lines

-- the line is a command or a function of this initiator
abbrev pub is_from : ℕ → Line → Bool
is_from i (Command j t a cdb sent) = j == i
is_from i (Function j what) = j == i
is_from i other = false

-- an initiator's commands and functions, in order
abbrev pub lines_of : ℕ → List Line → List Line
lines_of i lines = filter (is_from i) lines

-- the blocks of the unit that a script is for
abbrev pub capacity_of : Script → ℕ
capacity_of script = standing.capacity_of (given_or_default (option_map measures_of script.size))
