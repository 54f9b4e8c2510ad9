-- Lines of words that have no blank: their text reads as these words.
use Rattle.std.proofs.Common.{◌≡◌, ℕ, suc, ◌/◌, ◌%◌, ◌^◌, ◌<◌, ◌≤◌, ◌==◌, ◌&&◌, ◌≢◌, Bool, true, false, not, List, [], ◌∷◌, ◌++◌, length, map, Result, Err, ℤ, pos, negsuc, refl, ap, ◌∙◌, arith}
use Rattle.std.specs.Prelude.{decimal, nat_le, nat_abs, slice_index}
use Rattle.std.specs.Fmt.{signed_decimal}
use Rattle.std.specs.List.{All, list_all, list_any}
use Rattle.std.specs.Str.Parse.{AllDigits}
use Rattle.std.proofs.lemmas.Bool.{and_parts, leb-true, le-leb, ne_eqb, not-true}
use Rattle.std.proofs.lemmas.Fmt.{decimal_nonempty, decimal_is_IsNumeral}
use Rattle.std.proofs.lemmas.List.Elements.{All-nil, All-cons}
use Rattle.std.proofs.lemmas.List.Sums.{AllPass-from_list_all}
use Rattle.std.proofs.lemmas.Str.Parse.{digit_from_value}
use Rattle.hex.specs.Hex.{IsBytes, encode_with, upper_digits}
use Rattle.disk_base.specs.Cdb.{is_command_block}
use Rattle.text_words.specs.Line.{HasNoBlank, spaced, words_of}
use Rattle.text_words.specs.Digits.{hex_of}
use Rattle.text_words.proofs.Words.{words_of-spaced}
use Rattle.script_text.specs.declared.why.Why.{Why}
use Rattle.script_text.specs.declared.why.Why.TheVariants.{Shape}
use Rattle.script_text.specs.Spelling.{joined}
use Rattle.script_text.specs.Standing.{Reading, is_empty, is_printable, is_comment, with_words, with_text}
use Rattle.script_text.specs.Meaning.{lines_of, onto_first_line}
use Rattle.script_text.specs.Print.{text_of_lines}

-- a character of a word
abbrev pub is_graphic : ℕ → Bool
is_graphic byte = nat_le 33 byte && nat_le byte 126

abbrev pub is_word : List ℕ → Bool
is_word word = not (is_empty word) && list_all is_graphic word

-- words of which the first doesn't begin a comment
abbrev pub is_clean : List (List ℕ) → Bool
is_clean [] = false
is_clean (first ∷ rest) = not (is_comment first) && list_all is_word (first ∷ rest)

pub both : (a b : Bool) → a ≡ true → b ≡ true → (a && b) ≡ true
both true b p q = q
both false b p q = absurd (cc)

-- which words are printed

graphic_digits : (ds : List ℕ) → AllDigits 10 ds → list_all is_graphic ds ≡ true
graphic_digits [] digits = refl
graphic_digits (c ∷ cs) digits =
    let from = digit_from_value c digits.0 in
    both (is_graphic c) (list_all is_graphic cs)
    (both (nat_le 33 c) (nat_le c 126) (le-leb 33 c (omega (arith, from))) (le-leb c 126 (omega (arith, from))))
    (graphic_digits cs digits.1)

not_empty : (word : List ℕ) → 0 < length word → not (is_empty word) ≡ true
not_empty [] some = absurd (omega arith)
not_empty (c ∷ cs) some = refl

pub decimal_word : (n : ℕ) → n < 2 ^ 64 → is_word (decimal n) ≡ true
decimal_word n small =
    both (not (is_empty (decimal n))) (list_all is_graphic (decimal n))
    (not_empty (decimal n) (decimal_nonempty n small)) (graphic_digits (decimal n) (decimal_is_IsNumeral n small).0.1)

pub signed_word : (d : ℤ) → nat_abs d ≤ 127 → is_word (signed_decimal d) ≡ true
signed_word (pos n) small = decimal_word n (omega (arith, small))
signed_word (negsuc n) small = graphic_digits (decimal (suc n)) (decimal_is_IsNumeral (suc n) (omega (arith, small))).0.1

graphic_digit : (k : ℕ) → k < 16 → is_graphic (slice_index upper_digits k) ≡ true
graphic_digit k small = AllPass-from_list_all is_graphic upper_digits refl k 0 small

pub graphic_hex : (bytes : List ℕ) → IsBytes bytes → list_all is_graphic (hex_of bytes) ≡ true
unfolding encode_with
graphic_hex [] fit = refl
graphic_hex (b ∷ rest) fit =
    let small : b < 256 = fit 0 in
    both (is_graphic (slice_index upper_digits (b / 16))) _ (graphic_digit (b / 16) (omega (arith, small)))
    (both (is_graphic (slice_index upper_digits (b % 16))) _ (graphic_digit (b % 16) (omega (arith, small)))
    (graphic_hex rest (λ i. fit (suc i))))

pub block_word : (cdb : List ℕ) → IsBytes cdb → is_command_block cdb ≡ true → is_word (hex_of cdb) ≡ true
unfolding encode_with
block_word [] fit block = absurd (cc)
block_word (b ∷ rest) fit block = graphic_hex (b ∷ rest) fit

-- how they are read

-- a graphic character is printable and no blank
printable_one : (b : ℕ) → is_graphic b ≡ true → (is_printable b ≡ true) × (b ≢ 32)
printable_one b graphic =
    let parts = and_parts (nat_le 33 b) (nat_le b 126) graphic in
    let least = leb-true 33 b parts.0 in
    (both (nat_le 32 b) (nat_le b 126) (le-leb 32 b (omega (arith, least))) parts.1, λ e. omega (arith, least, e))

printable_word : (word : List ℕ) → list_all is_graphic word ≡ true → list_all is_printable word ≡ true
printable_word [] graphic = refl
printable_word (b ∷ bs) graphic =
    let parts = and_parts (is_graphic b) (list_all is_graphic bs) graphic in
    both (is_printable b) (list_all is_printable bs) (printable_one b parts.0).0 (printable_word bs parts.1)

printable_append : (a b : List ℕ) → list_all is_printable a ≡ true → list_all is_printable b ≡ true → list_all is_printable (a ++ b) ≡ true
printable_append [] b p q = q
printable_append (x ∷ xs) b p q =
    let parts = and_parts (is_printable x) (list_all is_printable xs) p in
    both (is_printable x) (list_all is_printable (xs ++ b)) parts.0 (printable_append xs b parts.1 q)

printable_spaced : (text : List ℕ) (words : List (List ℕ)) → list_all is_printable text ≡ true → list_all is_word words ≡ true → list_all is_printable (spaced text words) ≡ true
printable_spaced text [] printable clean = printable
printable_spaced text (word ∷ words) printable clean =
    let parts = and_parts (is_word word) (list_all is_word words) clean in
    let graphic = and_parts (not (is_empty word)) (list_all is_graphic word) parts.0 in
    printable_spaced (text ++ 32 ∷ word) words (printable_append text (32 ∷ word) printable (printable_word word graphic.1)) parts.1

printable_line : (words : List (List ℕ)) → is_clean words ≡ true → list_all is_printable (joined [] words) ≡ true
printable_line [] clean = absurd (cc)
printable_line (first ∷ rest) clean =
    let parts = and_parts (not (is_comment first)) (list_all is_word (first ∷ rest)) clean in
    let each = and_parts (is_word first) (list_all is_word rest) parts.1 in
    let graphic = and_parts (not (is_empty first)) (list_all is_graphic first) each.0 in
    printable_spaced first rest (printable_word first graphic.1) each.1

-- words behind a text leave its first character
spaced-cons : (c : ℕ) (cs : List ℕ) (words : List (List ℕ)) → spaced (c ∷ cs) words ≡ c ∷ spaced cs words
spaced-cons c cs [] = refl
spaced-cons c cs (word ∷ words) = spaced-cons c (cs ++ 32 ∷ word) words

no_comment : (first : List ℕ) (rest : List (List ℕ)) → is_comment first ≡ false → is_comment (spaced first rest) ≡ false
no_comment [] rest content = absurd (cc)
no_comment (c ∷ cs) rest content = ap is_comment (spaced-cons c cs rest) ∙ content

no_blank : (word : List ℕ) → list_all is_graphic word ≡ true → HasNoBlank word
no_blank [] graphic = All-nil (λ b. b ≢ 32)
no_blank (b ∷ bs) graphic =
    let parts = and_parts (is_graphic b) (list_all is_graphic bs) graphic in
    All-cons (λ b. b ≢ 32) b bs (printable_one b parts.0).1 (no_blank bs parts.1)

no_blanks : (words : List (List ℕ)) → list_all is_word words ≡ true → All HasNoBlank words
no_blanks [] clean = All-nil HasNoBlank
no_blanks (word ∷ words) clean =
    let parts = and_parts (is_word word) (list_all is_word words) clean in
    let graphic = and_parts (not (is_empty word)) (list_all is_graphic word) parts.0 in
    All-cons HasNoBlank word words (no_blank word graphic.1) (no_blanks words parts.1)

none_empty : (words : List (List ℕ)) → list_all is_word words ≡ true → list_any is_empty words ≡ false
none_empty [] clean = refl
none_empty ([] ∷ words) clean = absurd (cc)
none_empty ((c ∷ cs) ∷ words) clean =
    let parts = and_parts (is_word (c ∷ cs)) (list_all is_word words) clean in none_empty words parts.1

-- what words, the first among them, do to a standing
abbrev pub by_words : ℕ → Reading → List (List ℕ) → Result Reading Why
by_words n s [] = Err Shape
by_words n s (first ∷ rest) = with_words n s first rest

-- the text of clean words does what the words do
pub clean_text : (n : ℕ) (s : Reading) (words : List (List ℕ)) → is_clean words ≡ true → with_text n s (joined [] words) ≡ by_words n s words
unfolding with_text
clean_text n s [] clean = absurd (cc)
clean_text n s (first ∷ rest) clean =
    let parts = and_parts (not (is_comment first)) (list_all is_word (first ∷ rest)) clean in
    let printable : list_all is_printable (spaced first rest) ≡ true = printable_line (first ∷ rest) clean in
    let content : is_comment (spaced first rest) ≡ false = no_comment first rest (not-true (is_comment first) parts.0) in
    let split : words_of (spaced first rest) ≡ first ∷ rest = words_of-spaced first rest (no_blanks (first ∷ rest) parts.1) in
    let some : list_any is_empty (first ∷ rest) ≡ false = none_empty (first ∷ rest) parts.1 in
    rw (printable, content, split, some) refl

-- a line with its end, in front of a text
ended_line : (line text : List ℕ) → list_all is_printable line ≡ true → lines_of (line ++ 10 ∷ text) ≡ line ∷ lines_of text
ended_line [] text printable = refl
ended_line (b ∷ bs) text printable =
    let parts = and_parts (is_printable b) (list_all is_printable bs) printable in
    let bounds = and_parts (nat_le 32 b) (nat_le b 126) parts.0 in
    let least = leb-true 32 b bounds.0 in
    let other : (b == 10) ≡ false = ne_eqb b 10 (λ e. omega (arith, least, e)) in
    rw other (ap (onto_first_line b) (ended_line bs text parts.1))

-- the lines of a text of clean lines
pub clean_lines : (lines : List (List (List ℕ))) → list_all is_clean lines ≡ true → lines_of (text_of_lines lines) ≡ map (joined []) lines
clean_lines [] clean = refl
clean_lines (words ∷ lines) clean =
    let parts = and_parts (is_clean words) (list_all is_clean lines) clean in
    ended_line (joined [] words) (text_of_lines lines) (printable_line words parts.0) ∙ ap (λ rest. joined [] words ∷ rest) (clean_lines lines parts.1)
