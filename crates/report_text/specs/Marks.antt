-- The words of a line, cut at its marks.
use Rattle.std.specs.Prelude.{ℕ, ◌||◌, Bool, if◌then◌else◌, List, [], ◌∷◌, codes, Option, Some, None}
use Rattle.std.specs.Str.{bytes_eq}
use Rattle.std.specs.Borrow.{Bor}
use Rattle.text_words.specs.Line.{words_of}
use Rattle.report_text.specs.declared.words.Words.{Words}

-- an operation begins behind `<`, an entry behind `>`
abbrev pub is_mark : List ℕ → Bool
is_mark word = bytes_eq word (codes "<") || bytes_eq word (codes ">")

-- the words before the first mark
abbrev pub before_mark : List (List ℕ) → List (List ℕ)
before_mark [] = []
before_mark (word ∷ words) = if is_mark word then [] else word ∷ before_mark words

-- the words from the first mark on
abbrev pub from_mark : List (List ℕ) → List (List ℕ)
from_mark [] = []
from_mark (word ∷ words) = if is_mark word then word ∷ words else from_mark words

-- the words of a text, where there is one
abbrev pub words_left : Option (Bor (List ℕ)) → List (List ℕ)
words_left None = []
words_left (Some text) = words_of text.now

-- the words that are left of a line
abbrev pub words_in : Words → List (List ℕ)
words_in words = words_left words.rest
