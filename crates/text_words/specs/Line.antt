-- A line is words, parted by single blanks.
use Rattle.std.specs.Prelude.{ℕ, ◌==◌, ◌≢◌, All, List, [], ◌∷◌, ◌++◌, map}
use Rattle.std.specs.List.{slice_split}
use Rattle.std.specs.Borrow.{Bor}

-- a text and words behind it, each after a blank
abbrev pub spaced : List ℕ → List (List ℕ) → List ℕ
spaced text [] = text
spaced text (word ∷ words) = spaced (text ++ 32 ∷ word) words

-- the parts of a text that a byte parts, empty ones too
unfoldable pub parts_at : ℕ → List ℕ → List (List ℕ)
parts_at byte text = slice_split (λ b. b == byte) text

-- the words of a line; where two blanks follow each other, or one stands at an end, one of them is empty
abbrev pub words_of : List ℕ → List (List ℕ)
words_of line = parts_at 32 line

-- a word has no blank in it
abbrev pub HasNoBlank : List ℕ → Type 0
HasNoBlank word = All (λ b. b ≢ 32) word

-- the texts that words borrow
abbrev pub texts_of : List (Bor (List ℕ)) → List (List ℕ)
texts_of words = map (λ word. word.now) words
