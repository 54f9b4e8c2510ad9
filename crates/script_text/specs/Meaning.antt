-- What the bytes of a script mean: what it asks for, or the first line that is refused, with its reason.
use Rattle.std.specs.Prelude.{◌≡◌, ℕ, ◌+◌, ◌==◌, List, [], ◌∷◌, ◌++◌, Option, Result, Ok, Err, option_map, if◌then◌else◌}
use Rattle.disk_base.specs.declared.address.Psn.{Psn}
use Rattle.script_text.specs.declared.script.Line.{Line}
use Rattle.script_text.specs.declared.script.Line.TheVariants.{Go}
use Rattle.script_text.specs.declared.script.Script.{Script}
use Rattle.script_text.specs.declared.why.Why.{Why}
use Rattle.script_text.specs.declared.why.ScriptFault.{ScriptFault}
use Rattle.script_text.specs.declared.why.ScriptFault.TheVariants.{NoMemory, Refused}
use Rattle.script_text.specs.declared.fault.LineFault.{LineFault}
use Rattle.script_text.specs.declared.fault.LineFault.TheVariants.{NoMemory as OutOfMemory, Refused as RefusedLine}
use Rattle.script_text.specs.Measures.{Measures, measures_of}
use Rattle.script_text.specs.Standing.{Reading, at_start, with_text}

-- what a script asks for
pub record Asked : Type 0 where
  pub measures : Option Measures
  pub primary : List Psn
  pub lines : List Line

-- a line that is refused, and why
pub record Refusal : Type 0 where
  pub line : ℕ
  pub why : Why

-- a byte in front of the first line
abbrev pub onto_first_line : ℕ → List (List ℕ) → List (List ℕ)
onto_first_line byte [] = (byte ∷ []) ∷ []
onto_first_line byte (line ∷ lines) = (byte ∷ line) ∷ lines

-- the lines of a text, each ended by LF, which the last may lack
abbrev pub lines_of : List ℕ → List (List ℕ)
lines_of [] = []
lines_of (byte ∷ bytes) = if byte == 10 then [] ∷ lines_of bytes else onto_first_line byte (lines_of bytes)

-- the rest of a script, behind a line of this number
abbrev pub goes_on : ℕ → Result Reading Why → (Reading → Result Reading Refusal) → Result Reading Refusal
goes_on n (Ok s) rest = rest s
goes_on n (Err why) rest = Err (record { line = n; why = why })

-- the standing behind lines that are numbered from n
abbrev pub behind_lines : ℕ → Reading → List (List ℕ) → Result Reading Refusal
behind_lines n s [] = Ok s
behind_lines n s (line ∷ lines) = goes_on n (with_text n s line) (λ t. behind_lines (n + 1) t lines)

-- what is asked where the lines end here: what waits is carried out
abbrev pub asked_at_end : Reading → Asked
asked_at_end s = record { measures = s.measures; primary = s.primary; lines = if s.waiting.something then s.lines ++ Go ∷ [] else s.lines }

abbrev pub ends : Result Reading Refusal → Result Asked Refusal
ends (Ok s) = Ok (asked_at_end s)
ends (Err refusal) = Err refusal

-- the meaning of a script's bytes
unfoldable pub script_of : List ℕ → Result Asked Refusal
script_of bytes = ends (behind_lines 1 at_start (lines_of bytes))

-- what a script asks for, as it is kept
abbrev pub asked_by : Script → Asked
asked_by script = record { measures = option_map measures_of script.size; primary = script.primary.items; lines = script.lines }

-- what was found at a line of this number
abbrev pub fault_at : ℕ → LineFault → ScriptFault
fault_at line OutOfMemory = NoMemory
fault_at line (RefusedLine why) = Refused line why

-- what was answered is the meaning, unless memory ran out
abbrev pub Reads : Result Script ScriptFault → Result Asked Refusal → Type 0
Reads (Ok script) meaning = meaning ≡ Ok (asked_by script)
Reads (Err NoMemory) meaning = Unit {0}
Reads (Err (Refused line why)) meaning = meaning ≡ Err (record { line = line; why = why })
