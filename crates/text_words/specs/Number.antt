-- Decimal numerals.
use Rattle.std.specs.Prelude.{ℕ, ◌+◌, ◌-◌, ◌*◌, ◌==◌, ◌≤◌, ◌&&◌, ◌||◌, ⊤, Bool, not, nat_lt, nat_le, if◌then◌else◌, List, length, drop, fold, slice_index, Option, Some, None, option_map, ℤ, pos, neg_ℤ}
use Rattle.std.specs.List.{list_all}
use Rattle.std.specs.Char.{is_ascii_digit}
use Rattle.text_words.specs.declared.number.Numeral.{Numeral}
use Rattle.text_words.specs.declared.number.Numeral.TheVariants.{Malformed, Outside, Within}

-- decimal digits, at least one, and more than one only without a leading zero
abbrev pub is_numeral : List ℕ → Bool
is_numeral word = list_all is_ascii_digit word && (length word == 1 || (nat_lt 1 (length word) && not (slice_index word 0 == 48)))

-- a number with one more decimal digit behind it
abbrev pub with_digit : ℕ → ℕ → ℕ
with_digit n digit = 10 * n + (digit - 48)

-- what decimal digits are worth
abbrev pub worth : List ℕ → ℕ
worth digits = fold with_digit 0 digits

-- what a word gives where a number from low to high is wanted
unfoldable pub number : ℕ → ℕ → List ℕ → Numeral
number low high word =
    if is_numeral word
    then (if nat_le low (worth word) && nat_le (worth word) high then Within (worth word) else Outside)
    else Malformed

-- the number, where there is one
abbrev pub number_in : Numeral → Option ℕ
number_in (Within n) = Some n
number_in Outside = None
number_in Malformed = None

-- where there is a number, it is from low to high
abbrev pub IsFrom : ℕ → ℕ → Numeral → Type 0
IsFrom low high (Within n) = (low ≤ n) × (n ≤ high)
IsFrom low high Outside = ⊤
IsFrom low high Malformed = ⊤

-- the number that a word gives whose magnitude is at most this: a numeral, or a minus sign before one that isn't 0
unfoldable pub signed_number : ℕ → List ℕ → Option ℤ
signed_number most word =
    if slice_index word 0 == 45
    then option_map (λ n. neg_ℤ (pos n)) (number_in (number 1 most (drop 1 word)))
    else option_map pos (number_in (number 0 most word))
