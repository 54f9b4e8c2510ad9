-- Rows of the definitions: what they hold of, and what not.
use Rattle.std.proofs.Common.{◌≡◌, true, [], ◌∷◌, Some, None, negsuc, refl}
use Rattle.std.specs.Prelude.{codes}
use Rattle.disk_base.specs.declared.block.Value.TheVariants.{Lost}
use Rattle.disk_base.specs.declared.command.DataOut.TheVariants.{Fill, Given}
use Rattle.hex.specs.Hex.{encode_with, decode_pairs}
use Rattle.text_words.specs.declared.number.Numeral.TheVariants.{Malformed, Outside, Within}
use Rattle.text_words.specs.declared.data.Mark.TheVariants.{Equals}
use Rattle.text_words.specs.Line.{spaced, parts_at, words_of}
use Rattle.text_words.specs.Number.{number, signed_number}
use Rattle.text_words.specs.Digits.{hex_of, bytes_of, byte_of}
use Rattle.text_words.specs.Data.{sent_word, mark_of, data_of, value_of}
use Rattle.text_words.specs.Written.{IsCompared}

line : spaced (codes "cmd") (codes "1" ∷ codes "7" ∷ []) ≡ codes "cmd 1 7"
line = refl

-- two blanks, and one at an end
two_blanks : words_of (codes "scan  7") ≡ codes "scan" ∷ [] ∷ codes "7" ∷ []
unfolding parts_at
two_blanks = refl

last_blank : words_of (codes "go ") ≡ codes "go" ∷ [] ∷ []
unfolding parts_at
last_blank = refl

highest : number 0 65535 (codes "65535") ≡ Within 65535
unfolding number
highest = refl

one_above : number 0 65535 (codes "65536") ≡ Outside
unfolding number
one_above = refl

below : number 1 8 (codes "0") ≡ Outside
unfolding number
below = refl

leading_zero : number 0 9 (codes "07") ≡ Malformed
unfolding number
leading_zero = refl

plus : number 0 9 (codes "+7") ≡ Malformed
unfolding number
plus = refl

no_digit : number 0 9 [] ≡ Malformed
unfolding number
no_digit = refl

minus : signed_number 127 (codes "-127") ≡ Some (negsuc 126)
unfolding number signed_number
minus = refl

minus_zero : signed_number 127 (codes "-0") ≡ None
unfolding number signed_number
minus_zero = refl

minus_leading_zero : signed_number 127 (codes "-05") ≡ None
unfolding number signed_number
minus_leading_zero = refl

too_great : signed_number 127 (codes "128") ≡ None
unfolding number signed_number
too_great = refl

upper_case : hex_of (10 ∷ 255 ∷ []) ≡ codes "0AFF"
unfolding encode_with
upper_case = refl

either_case : bytes_of (codes "0aFf") ≡ Some (10 ∷ 255 ∷ [])
unfolding bytes_of decode_pairs
either_case = refl

odd : bytes_of (codes "0aF") ≡ None
unfolding bytes_of decode_pairs
odd = refl

no_digits : bytes_of (codes "0g") ≡ None
unfolding bytes_of decode_pairs
no_digits = refl

three_digits : byte_of (codes "0FF") ≡ None
unfolding byte_of
three_digits = refl

fill : sent_word (Fill 7) ≡ codes "*07"
unfolding encode_with
fill = refl

nothing_given : data_of Equals (codes "=") ≡ Some (Given [])
unfolding bytes_of decode_pairs
nothing_given = refl

no_mark : mark_of (codes "07") ≡ None
no_mark = refl

lost : value_of (codes "bad") ≡ Some Lost
unfolding value_of
lost = refl

-- a front, and none
front : IsCompared (codes "go") (codes "g") (codes "o") true
front = record { front = λ e. refl; other = λ e. cc }

no_front : IsCompared (codes "go") (codes "x") (codes "go") true → ⊥
no_front h = let e = h.front refl in cc
