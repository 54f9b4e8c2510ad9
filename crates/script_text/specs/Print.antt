-- The text of a script.
use Rattle.std.specs.Prelude.{ℕ, List, [], ◌∷◌, ◌++◌, map, Option, None, Some}
use Rattle.script_text.specs.Measures.{Measures}
use Rattle.script_text.specs.Spelling.{joined, disk_words, primary_words, line_words}
use Rattle.script_text.specs.Meaning.{Asked}

-- lines, each ended by LF
abbrev pub text_of_lines : List (List (List ℕ)) → List ℕ
text_of_lines [] = []
text_of_lines (words ∷ lines) = joined [] words ++ 10 ∷ text_of_lines lines

-- the `disk` line, where it was given
abbrev pub disk_lines : Option Measures → List (List (List ℕ))
disk_lines None = []
disk_lines (Some m) = disk_words m ∷ []

-- the heading, then the body
abbrev pub script_lines : Asked → List (List (List ℕ))
script_lines asked = disk_lines asked.measures ++ (map primary_words asked.primary ++ map line_words asked.lines)

-- the text of a script
unfoldable pub print_of : Asked → List ℕ
print_of asked = text_of_lines (script_lines asked)
