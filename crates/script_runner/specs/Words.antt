-- The words that the program is called with.
use Rattle.std.specs.Prelude.{ℕ, List, [], ◌∷◌, map, codes, Option, Some, None, Result, Ok, Err, if◌then◌else◌}
use Rattle.std.specs.Borrow.{Bor}
use Rattle.std.specs.Str.{bytes_eq}
use Rattle.text_words.specs.Number.{number, number_in}

-- the texts that words borrow
abbrev pub texts_of : List (Bor (List ℕ)) → List (List ℕ)
texts_of words = map (λ word. word.now) words

-- the number that an order is to be drawn from
abbrev pub order_in : List ℕ → Option ℕ
order_in word = number_in (number 0 2147483647 word)

-- behind that number nothing stands
abbrev pub alone : List (List ℕ) → Option ℕ → Result (Option ℕ) ℕ
alone words None = Err 3
alone [] (Some x) = Ok (Some x)
alone (more ∷ words) (Some x) = Err 4

-- what stands behind `--order`
abbrev pub behind_order : List (List ℕ) → Result (Option ℕ) ℕ
behind_order [] = Err 3
behind_order (word ∷ words) = alone words (order_in word)

-- what stands behind `run`
abbrev pub behind_run : List (List ℕ) → Result (Option ℕ) ℕ
behind_run [] = Ok None
behind_run (word ∷ words) = if bytes_eq word (codes "--order") then behind_order words else Err 2

-- the order that words ask for, or the number of the first, from 1, that breaks their rule: `run`, or `run --order` and a number;
-- a missing word has the number after the last
abbrev pub order_asked : List (List ℕ) → Result (Option ℕ) ℕ
order_asked [] = Err 1
order_asked (word ∷ words) = if bytes_eq word (codes "run") then behind_run words else Err 1

-- the order, where the words keep their rule
abbrev pub order_or_none : Result (Option ℕ) ℕ → Option ℕ
order_or_none (Ok order) = order
order_or_none (Err word) = None

abbrev pub order_of : List (List ℕ) → Option ℕ
order_of words = order_or_none (order_asked words)
