-- Where the reading of a script stands, and what one line does to it: a chain of checks in the order of the refusals.
use Rattle.std.specs.Prelude.{ℕ, ◌+◌, ◌-◌, ◌==◌, ◌&&◌, not, nat_le, nat_lt, Bool, true, false, List, [], ◌∷◌, ◌++◌, length, codes, Option, None, Some, is_none, Result, Ok, Err, if◌then◌else◌}
use Rattle.std.specs.List.{list_all, list_any}
use Rattle.std.specs.Str.{bytes_eq}
use Rattle.disk_base.specs.declared.address.Psn.{Psn}
use Rattle.text_words.specs.Line.{words_of}
use Rattle.script_text.specs.declared.script.Line.{Line}
use Rattle.script_text.specs.declared.script.Line.TheVariants.{Command, Function, Scan, Destage, Go, World}
use Rattle.script_text.specs.declared.why.Why.{Why}
use Rattle.script_text.specs.declared.why.Why.TheVariants.{Bytes, Shape, Disk, Place, Tag, Limit, Later}
use Rattle.script_text.specs.Steps.{◌>>=◌, demand, or_else}
use Rattle.script_text.specs.Measures.{Measures, given_or_default, total_of}
use Rattle.script_text.specs.Forms.{form_of}
use Rattle.script_text.specs.Grammar.{disk_of, primary_of, line_of}
use Rattle.script_text.specs.Phase.{Waiting, idle, is_taken, phase_after}
use Rattle.script_text.specs.Weight.{weight_of}
use Rattle.script_text.specs.Served.{is_served}

pub record Reading : Type 0 where
  pub measures : Option Measures
  pub primary : List Psn
  pub lines : List Line
  pub waiting : Waiting
  pub weight : ℕ

-- before the first line
abbrev pub at_start : Reading
at_start = record { measures = None; primary = []; lines = []; waiting = idle; weight = 0 }

-- the measures of the drive, so far as the lines go
abbrev pub drive_of : Reading → Measures
drive_of s = given_or_default s.measures

abbrev pub capacity_of : Measures → ℕ
capacity_of m = total_of m - 16 - m.reserved

-- the most lines, and the most weight
abbrev pub lines_most : ℕ
lines_most = 65536

abbrev pub weight_most : ℕ
weight_most = 60000

-- a list is empty
abbrev pub is_empty : {A : Type 0} → List A → Bool
is_empty [] = true
is_empty (x ∷ xs) = false

-- the line of this number isn't one too many
abbrev pub within_lines : ℕ → Result (Unit {0}) Why
within_lines n = demand (nat_le n lines_most) Limit

-- the `disk` line stands first
unfoldable pub with_measures : ℕ → Reading → Measures → Result Reading Why
with_measures n s m = do
  _ ← demand (is_none s.measures && (is_empty s.primary && is_empty s.lines)) Place
  _ ← within_lines n
  Ok (record s { measures = Some m })

-- a primary defect may follow: it is above those before it, and there is room for it
abbrev pub takes_primary : Reading → Psn → Bool
takes_primary s p = nat_lt (length s.primary) 128 && (nat_lt (length s.primary) (drive_of s).reserved && list_all (λ q. nat_lt q.0 p.0) s.primary)

-- `primary` lines stand before the body
unfoldable pub with_primary : ℕ → Reading → Psn → Result Reading Why
with_primary n s p = do
  _ ← demand (takes_primary s p) Disk
  _ ← demand (is_empty s.lines) Place
  _ ← within_lines n
  Ok (record s { primary = s.primary ++ p ∷ [] })

abbrev pub is_world : Line → Bool
is_world (Command i t a cdb sent) = false
is_world (Function i what) = false
is_world (Scan n) = false
is_world (Destage n) = false
is_world Go = false
is_world (World event) = true

-- a line of the body: world lines stand where nothing waits
unfoldable pub with_line : ℕ → Reading → Line → Result Reading Why
with_line n s line = let weight = s.weight + weight_of (capacity_of (drive_of s)) line in do
  _ ← demand (not (is_world line && s.waiting.something)) Place
  _ ← demand (not (is_taken s.waiting line)) Tag
  _ ← demand (nat_le n lines_most && nat_le weight weight_most) Limit
  _ ← demand (is_served line) Later
  Ok (record s { lines = s.lines ++ line ∷ []; waiting = phase_after s.waiting line; weight = weight })

-- a line's words, the first apart
unfoldable pub with_words : ℕ → Reading → List ℕ → List (List ℕ) → Result Reading Why
with_words n s first rest =
    if bytes_eq first (codes "disk") then (do
      m ← disk_of rest
      with_measures n s m)
    else if bytes_eq first (codes "primary") then (do
      p ← primary_of (total_of (drive_of s)) rest
      with_primary n s p)
    else (do
      form ← or_else Shape (form_of first)
      line ← line_of (total_of (drive_of s)) form rest
      with_line n s line)

-- words of a line that means something; an empty one among them has no form
abbrev pub with_all_words : ℕ → Reading → List (List ℕ) → Result Reading Why
with_all_words n s [] = Err Shape
with_all_words n s (first ∷ rest) = do
  _ ← demand (not (list_any is_empty (first ∷ rest))) Shape
  with_words n s first rest

-- the bytes of a line
abbrev pub is_printable : ℕ → Bool
is_printable byte = nat_le 32 byte && nat_le byte 126

-- an empty line and one that begins with `#` mean nothing
abbrev pub is_comment : List ℕ → Bool
is_comment [] = true
is_comment (first ∷ rest) = first == 35

-- a line of printable bytes
abbrev pub with_content : ℕ → Reading → List ℕ → Result Reading Why
with_content n s line = if is_comment line then (do
  _ ← within_lines n
  Ok s)
    else with_all_words n s (words_of line)

-- the standing behind one more line, which has this number
unfoldable pub with_text : ℕ → Reading → List ℕ → Result Reading Why
with_text n s line = do
  _ ← demand (list_all is_printable line) Bytes
  with_content n s line
