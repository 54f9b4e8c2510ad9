-- Numerals and what is printed of numbers.
use Rattle.std.proofs.Common.{◌≡◌, ℕ, suc, ◌^◌, ◌<◌, ◌≤◌, ◌==◌, inl, inr, Bool, true, false, ◌&&◌, ◌||◌, not, nat_lt, List, length, get_or, Some, ℤ, pos, negsuc, refl, sym, ap, ◌∙◌, arith, rules}
use Rattle.std.specs.Prelude.{fold, decimal, nat_le, nat_abs, if◌then◌else◌}
use Rattle.std.specs.Fmt.{signed_decimal}
use Rattle.std.specs.List.{list_all}
use Rattle.std.specs.Char.{is_ascii_digit}
use Rattle.std.proofs.lemmas.Bool.{cases_lt, eqb-true, le-leb, lt-ltb, ltb-true, eqb-false, not-true, or_cases, ne_eqb, and_parts}
use Rattle.std.proofs.lemmas.Str.Parse.{IsNumeralModel, numerals_by_fold}
use Rattle.std.proofs.lemmas.Fmt.{digits_decimal, digits_value-decimal, decimal_nonempty, first_decimal, decimal_digit, decimal-digits_value}
use Rattle.text_words.specs.declared.number.Numeral.TheVariants.{Malformed, Outside, Within}
use Rattle.text_words.specs.Number.{is_numeral, with_digit, worth, number, signed_number}

-- the test of digits and their worth are those of the library
own : IsNumeralModel (λ ds. list_all is_ascii_digit ds ≡ true) (fold with_digit 0)
own = numerals_by_fold _ (search rules) (fold with_digit) (search rules)

-- digits, at least one, without a leading zero
numeral_from_parts : (word : List ℕ) → list_all is_ascii_digit word ≡ true → 0 < length word → (get_or word 0 0 ≡ 48 → length word ≡ 1) → is_numeral word ≡ true
numeral_from_parts word digits some alone = elim (cases_lt 1 (length word)) [
  | inl more ↦
      let other : (get_or word 0 0 == 48) ≡ false = ne_eqb (get_or word 0 0) 48 (λ e. omega (arith, alone e)) in
      let long : (length word == 1) ≡ false = ne_eqb (length word) 1 (λ e. omega arith) in
      rw (digits, long, lt-ltb 1 (length word) more, other) refl
  | inr few ↦
      let one : length word ≡ 1 = omega arith in
      rw (digits, one) refl
]

-- what the tests of a numeral's length and first digit tell
alone_from_tests : (n first : ℕ) → (n == 1 || (nat_lt 1 n && not (first == 48))) ≡ true → (0 < n) × (first ≡ 48 → n ≡ 1)
alone_from_tests n first h = elim (or_cases (n == 1) (nat_lt 1 n && not (first == 48)) h) [
  | inl one ↦ let same = eqb-true n 1 one in (omega (arith, same), λ e. same)
  | inr more ↦
      let parts = and_parts (nat_lt 1 n) (not (first == 48)) more in
      let long = ltb-true 1 n parts.0 in
      (omega (arith, long), λ e. absurd (eqb-false first 48 (not-true (first == 48) parts.1) e))
]

numeral_parts : (word : List ℕ) → is_numeral word ≡ true → (list_all is_ascii_digit word ≡ true) × (0 < length word) × (get_or word 0 0 ≡ 48 → length word ≡ 1)
numeral_parts word h =
    let parts = and_parts _ _ h in
    let told = alone_from_tests (length word) (get_or word 0 0) parts.1 in
    (parts.0, told.0, told.1)

-- what is printed of a number is a numeral
is_numeral-decimal : (n : ℕ) → n < 2 ^ 64 → is_numeral (decimal n) ≡ true
is_numeral-decimal n small = numeral_from_parts (decimal n) (digits_decimal own n small) (decimal_nonempty n small) (alone n small)
  where
    alone : (n : ℕ) → n < 2 ^ 64 → get_or (decimal n) 0 0 ≡ 48 → length (decimal n) ≡ 1
    alone n small e = elim (cases_lt 0 n) [
      | inl more ↦ let first = first_decimal n more small in absurd (omega (arith, first, e))
      | inr none ↦ let zero_is : n ≡ 0 = omega arith in rw (zero_is, decimal_digit 0 (omega arith)) refl
    ]

-- a number printed reads again
pub number-decimal : (low high n : ℕ) → low ≤ n → n ≤ high → n < 2 ^ 64 → number low high (decimal n) ≡ Within n
unfolding number
number-decimal low high n above below small =
    let worth_is : worth (decimal n) ≡ n = digits_value-decimal own n small in
    rw (is_numeral-decimal n small, worth_is, le-leb low n above, le-leb n high below) refl

-- what the answer tells of the tests
within_parts : (a b : Bool) (w n : ℕ) → (if a then (if b then Within w else Outside) else Malformed) ≡ Within n → (a ≡ true) × (w ≡ n)
within_parts true true w n e = (refl, cc)
within_parts true false w n e = absurd (apart e)
  where
    apart : Outside ≡ Within n → ⊥
    apart e = cc
within_parts false b w n e = absurd (apart e)
  where
    apart : Malformed ≡ Within n → ⊥
    apart e = cc

-- a word that gives a number is that number printed
pub decimal-number : (low high n : ℕ) (word : List ℕ) → n < 2 ^ 64 → number low high word ≡ Within n → decimal n ≡ word
unfolding number
decimal-number low high n word small e =
    let told = within_parts (is_numeral word) (nat_le low (worth word) && nat_le (worth word) high) (worth word) n e in
    let parts = numeral_parts word told.0 in
    ap decimal (sym told.1) ∙ decimal-digits_value own word parts.0 parts.1 parts.2 (omega (arith, told.1))

-- a number printed begins with a digit
first_digit : (n : ℕ) → n < 2 ^ 64 → 48 ≤ get_or (decimal n) 0 0
first_digit n small = elim (cases_lt 0 n) [
  | inl more ↦ let first = first_decimal n more small in omega (arith, first)
  | inr none ↦ let zero_is : n ≡ 0 = omega arith in rw (zero_is, decimal_digit 0 (omega arith)) (omega arith)
]

-- a signed number printed reads again
pub signed_number-decimal : (most : ℕ) (z : ℤ) → nat_abs z ≤ most → most < 2 ^ 63 → signed_number most (signed_decimal z) ≡ Some z
unfolding signed_number
signed_number-decimal most (pos n) small fits =
    let first = first_digit n (omega (arith, small, fits)) in
    let plain : (get_or (decimal n) 0 0 == 45) ≡ false = ne_eqb (get_or (decimal n) 0 0) 45 (λ e. omega (arith, first, e)) in
    let read : number 0 most (decimal n) ≡ Within n = number-decimal 0 most n (omega arith) small (omega (arith, small, fits)) in
    rw (plain, read) refl
signed_number-decimal most (negsuc n) small fits =
    let read : number 1 most (decimal (suc n)) ≡ Within (suc n) = number-decimal 1 most (suc n) (omega arith) (omega (arith, small)) (omega (arith, small, fits)) in
    rw read refl
