-- What is printed reads again, and what means nothing.
use Rattle.std.specs.Prelude.{◌≡◌, ℕ, ◌+◌, ◌≤◌, IsTrue, List, [], ◌∷◌, length, Result, Ok, Err}
use Rattle.std.specs.List.{list_all}
use Rattle.script_text.specs.declared.script.Line.{Line}
use Rattle.script_text.specs.declared.why.Why.{Why}
use Rattle.script_text.specs.declared.why.Why.TheVariants.{Shape}
use Rattle.script_text.specs.Steps.{◌>>=◌, or_else}
use Rattle.script_text.specs.Spelling.{line_words}
use Rattle.script_text.specs.Forms.{form_of}
use Rattle.script_text.specs.Grammar.{line_of}
use Rattle.script_text.specs.Standing.{Reading, is_printable, is_comment}
use Rattle.script_text.specs.Meaning.{Asked, lines_of, behind_lines, script_of}
use Rattle.script_text.specs.Print.{print_of}
use Rattle.script_text.specs.Proper.{IsProper}

-- the line of the body that words are, on a drive of so many sectors
abbrev pub body_line : ℕ → List (List ℕ) → Result Line Why
body_line total [] = Err Shape
body_line total (first ∷ rest) = do
  form ← or_else Shape (form_of first)
  line_of total form rest

-- the words of a line, read, are the line
abbrev pub LinesReadAgain : Type 0
LinesReadAgain = (total : ℕ) (line : Line) → total ≤ 4096 → IsProper total line → body_line total (line_words line) ≡ Ok line

-- an empty line, or one that begins with `#`, changes nothing but the numbers of later lines
abbrev pub CommentsMeanNothing : Type 0
CommentsMeanNothing = (n : ℕ) (s : Reading) (line : List ℕ) (lines : List (List ℕ)) → n ≤ 65536 → IsTrue (list_all is_printable line) → IsTrue (is_comment line)
    → behind_lines n s (line ∷ lines) ≡ behind_lines (n + 1) s lines

-- what was read, printed, reads back as the same, where the print has no more lines than a script may have
abbrev pub ScriptsReadAgain : Type 0
ScriptsReadAgain = (bytes : List ℕ) (asked : Asked) → script_of bytes ≡ Ok asked → length (lines_of (print_of asked)) ≤ 65536 → script_of (print_of asked) ≡ Ok asked
