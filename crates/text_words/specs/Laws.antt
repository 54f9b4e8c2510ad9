-- What is printed reads again as the same, and what is read is spelled as it would be printed.
use Rattle.std.specs.Prelude.{◌≡◌, ℕ, ◌^◌, ◌<◌, ◌≤◌, List, ◌∷◌, All, Some, ℤ, nat_abs, decimal}
use Rattle.std.specs.Fmt.{signed_decimal}
use Rattle.hex.specs.Hex.{IsBytes}
use Rattle.text_words.specs.declared.number.Numeral.TheVariants.{Within}
use Rattle.text_words.specs.Line.{HasNoBlank, spaced, words_of}
use Rattle.text_words.specs.Number.{number, signed_number}
use Rattle.text_words.specs.Digits.{hex_of, bytes_of}

-- a number that is in the range that is wanted
abbrev pub NumbersReadAgain : Type 0
NumbersReadAgain = (low high n : ℕ) → low ≤ n → n ≤ high → n < 2 ^ 64 → number low high (decimal n) ≡ Within n

-- a word that gives a number is that number printed
abbrev pub NumbersAreSpelled : Type 0
NumbersAreSpelled = (low high n : ℕ) (word : List ℕ) → n < 2 ^ 64 → number low high word ≡ Within n → decimal n ≡ word

abbrev pub SignedNumbersReadAgain : Type 0
SignedNumbersReadAgain = (most : ℕ) (z : ℤ) → nat_abs z ≤ most → most < 2 ^ 63 → signed_number most (signed_decimal z) ≡ Some z

abbrev pub DigitsReadAgain : Type 0
DigitsReadAgain = (bytes : List ℕ) → IsBytes bytes → bytes_of (hex_of bytes) ≡ Some bytes

-- words without a blank in them, after blanks
abbrev pub WordsSplitAgain : Type 0
WordsSplitAgain = (first : List ℕ) (words : List (List ℕ)) → All HasNoBlank (first ∷ words) → words_of (spaced first words) ≡ first ∷ words

-- a line is its words after blanks
abbrev pub WordsAreSpelled : Type 0
WordsAreSpelled = (line first : List ℕ) (words : List (List ℕ)) → words_of line ≡ first ∷ words → spaced first words ≡ line
