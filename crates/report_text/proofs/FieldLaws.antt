-- The words of numbers, bytes and values, printed, are read as what they were.
use Rattle.std.proofs.Common.{◌≡◌, ℕ, zero, suc, ◌+◌, ◌*◌, ◌/◌, ◌%◌, ◌^◌, ◌<◌, ◌≤◌, ◌==◌, Bool, true, false, not, List, [], ◌∷◌, ◌++◌, length, get_or, replicate, Option, None, Some, Result, Ok, ℤ, pos, negsuc, refl, sym, ap, ◌∙◌, arith, lit<}
use Rattle.std.specs.Prelude.{decimal, codes, nat_abs, slice_index, if◌then◌else◌}
use Rattle.std.specs.Fmt.{signed_decimal}
use Rattle.std.specs.List.{list_all}
use Rattle.std.specs.Str.{bytes_eq}
use Rattle.std.specs.Result.{result_ok}
use Rattle.std.proofs.lemmas.Bool.{ne_eqb, eqb-true, not-true}
use Rattle.std.proofs.lemmas.Fmt.{decimal_nonempty, decimal_is_IsNumeral}
use Rattle.std.specs.Str.Parse.{AllDigits}
use Rattle.std.proofs.lemmas.Str.Parse.{digit_from_value}
use Rattle.std.proofs.lemmas.List.Sums.{AllPass-from_list_all}
use Rattle.std.proofs.lemmas.Slice.Eq.{bytes_eq-Decides}
use Rattle.std.specs.Int.{w32, to_be_bytes, from_be_bytes}
use Rattle.std.proofs.lemmas.Nat.{from_be_bytes-to_be_bytes_4}
use Rattle.hex.specs.Hex.{encode_with, upper_digits, decode_sized, IsBytes}
use Rattle.hex.specs.declared.error.FromHexError.{FromHexError}
use Rattle.hex.proofs.HexLemmas.{IsDigits-upper_digits, decode_of-encode_upper, decode_sized-twice, length-encode_with}
use Rattle.sense_data.proofs.Alike.{replicate-alike}
use Rattle.disk_base.specs.declared.block.Value.{Value}
use Rattle.disk_base.specs.declared.block.Value.TheVariants.{Data, Lost}
use Rattle.text_words.specs.Number.{number_in}
use Rattle.text_words.specs.Digits.{hex_of, byte_word, bytes_of, byte_of}
use Rattle.text_words.specs.Data.{value_word, value_of}
use Rattle.text_words.proofs.Numerals.{number-decimal}
use Rattle.report_text.proofs.SenseLemmas.{four_bytes}
use Rattle.report_text.specs.Steps.{◌>>=◌}
use Rattle.report_text.specs.Fields.{number_of, signed_of, sense_from, sense_of}
use Rattle.sense_data.specs.declared.sense.Sense.{Sense}
use Rattle.sense_data.specs.Sense.{IsSense, sense_bytes, fields_of}
use Rattle.report_text.specs.Proper.{IsOffset, IsShort, IsValue}

-- a number in its range
pub number_again : (low high n : ℕ) → low ≤ n → n ≤ high → high < 2 ^ 64 → number_of low high (decimal n) ≡ Some n
number_again low high n least most small = ap number_in (number-decimal low high n least most (omega arith))

-- a number of 32 bits, and one of 8
pub short_again : (n : ℕ) → IsShort n → number_of 0 4294967295 (decimal n) ≡ Some n
short_again n fits = number_again 0 4294967295 n (omega arith) fits (lit< tt)

pub small_again : (n : ℕ) → n ≤ 255 → number_of 0 255 (decimal n) ≡ Some n
small_again n fits = number_again 0 255 n (omega arith) fits (lit< tt)

-- the digits of bytes
pub bytes_again : (bytes : List ℕ) → IsBytes bytes → bytes_of (hex_of bytes) ≡ Some bytes
unfolding bytes_of
bytes_again bytes fit = ap result_ok (decode_of-encode_upper bytes fit)

-- the two digits of a byte
pub byte_again : (byte : ℕ) → byte < 256 → byte_of (byte_word byte) ≡ Some byte
unfolding byte_of encode_with
byte_again byte small =
    let whole : byte / 16 * 16 + byte % 16 ≡ byte = omega arith in
    rw (IsDigits-upper_digits (byte / 16) (omega arith), IsDigits-upper_digits (byte % 16) (omega arith)) (ap Some whole)

-- the digits of so many bytes
pub sized_again : (bytes : List ℕ) (n : ℕ) → length bytes ≡ n → IsBytes bytes → decode_sized (hex_of bytes) n ≡ Ok bytes
sized_again bytes n long fit =
    let twice : length (hex_of bytes) ≡ 2 * n = length-encode_with upper_digits bytes ∙ ap (λ k. 2 * k) long in
    decode_sized-twice (hex_of bytes) n twice ∙ decode_of-encode_upper bytes fit

-- digits begin with a digit
first_of_digits : (ds : List ℕ) → AllDigits 10 ds → 0 < length ds → 48 ≤ get_or ds 0 0
first_of_digits [] digits some = absurd (omega arith)
first_of_digits (c ∷ cs) digits some = let from = digit_from_value c digits.0 in omega (arith, from)

no_minus : (n : ℕ) → n < 2 ^ 64 → (get_or (decimal n) 0 0 == 45) ≡ false
no_minus n small =
    let first : 48 ≤ get_or (decimal n) 0 0 = first_of_digits (decimal n) (decimal_is_IsNumeral n small).0.1 (decimal_nonempty n small) in
    ne_eqb (get_or (decimal n) 0 0) 45 (λ e. omega (arith, first, e))

-- digits are no word that begins with a letter
not_digits : (ds : List ℕ) (f : ℕ) (rest : List ℕ) → AllDigits 10 ds → 57 < f → bytes_eq ds (f ∷ rest) ≡ false
not_digits [] f rest digits far = refl
not_digits (c ∷ cs) f rest digits far =
    let from = digit_from_value c digits.0 in
    rw (ne_eqb c f (λ e. omega (arith, from, e, far))) refl

pub no_letter : (n f : ℕ) (rest : List ℕ) → n < 2 ^ 64 → 57 < f → bytes_eq (decimal n) (f ∷ rest) ≡ false
no_letter n f rest small far = not_digits (decimal n) f rest (decimal_is_IsNumeral n small).0.1 far

-- a head offset
pub offset_again : (z : ℤ) → IsOffset z → signed_of 128 0 127 (signed_decimal z) ≡ Some z
offset_again (pos n) fits = rw (no_minus n (omega (arith, fits)), number_again 0 127 n (omega arith) fits (lit< tt)) refl
offset_again (negsuc n) fits = rw (number_again 1 128 (suc n) (omega arith) (omega arith) (lit< tt)) refl

-- a change of a sample
pub change_again : (z : ℤ) → 1 ≤ nat_abs z → nat_abs z ≤ 127 → signed_of 127 1 127 (signed_decimal z) ≡ Some z
change_again (pos n) least most = rw (no_minus n (omega (arith, most)), number_again 1 127 n least most (lit< tt)) refl
change_again (negsuc n) least most = rw (number_again 1 127 (suc n) least most (lit< tt)) refl

-- a digit isn't this character
pub other_digit : (k other : ℕ) → k < 16 → list_all (λ d. not (d == other)) upper_digits ≡ true → (slice_index upper_digits k == other) ≡ false
other_digit k other small none = not-true (slice_index upper_digits k == other) (AllPass-from_list_all (λ d. not (d == other)) upper_digits none k 0 small)

-- the data of a block of which each byte is the first
same_bytes : (x : ℕ) (rest : List ℕ) → length (x ∷ rest) ≡ 512 → list_all (λ b. b == x) (x ∷ rest) ≡ true → x ∷ rest ≡ replicate 512 x
same_bytes x rest long alike = replicate-alike x 512 (x ∷ rest) long (λ i d lt. eqb-true _ _ (AllPass-from_list_all (λ b. b == x) (x ∷ rest) alike i d (omega (arith, long, lt))))

pub value_again : (value : Value) → IsValue value → value_of (value_word value) ≡ Some value
unfolding value_of encode_with
value_again Lost fits = refl
value_again (Data []) fits = absurd (omega (arith, fits.0))
value_again (Data (x ∷ rest)) fits = by_test (list_all (λ b. b == x) (x ∷ rest)) refl
  where
    byte : x < 256
    byte = fits.1 0

    by_test : (alike : Bool) → list_all (λ b. b == x) (x ∷ rest) ≡ alike
        → value_of (if alike then codes "*" ++ byte_word x else hex_of (x ∷ rest)) ≡ Some (Data (x ∷ rest))
    by_test true e = rw (byte_again x byte) (ap (λ (block : List ℕ). Some (Data block)) (sym (same_bytes x rest fits.0 e)))
    by_test false e = rw (other_digit (x / 16) 98 (omega (arith, byte)) refl, other_digit (x / 16) 42 (omega (arith, byte)) refl, sized_again (x ∷ rest) 512 fits.0 fits.1) refl

-- bytes one after another
more_bytes : (b : ℕ) (rest : List ℕ) → b < 256 → IsBytes rest → IsBytes (b ∷ rest)
more_bytes b rest small fit zero = small
more_bytes b rest small fit (suc i) = fit i

bytes_append : (xs ys : List ℕ) → IsBytes xs → IsBytes ys → IsBytes (xs ++ ys)
bytes_append [] ys xs_fit ys_fit = ys_fit
bytes_append (x ∷ xs) ys xs_fit ys_fit = more_bytes x (xs ++ ys) (xs_fit 0) (bytes_append xs ys (λ i. xs_fit (suc i)) ys_fit)

zeros : (n : ℕ) → IsBytes (replicate n 0)
zeros zero = λ i. lit< tt
zeros (suc n) = more_bytes 0 (replicate n 0) (lit< tt) (zeros n)

-- the fields behind a sense key, and the last bytes
behind : ℕ → ℕ → ℕ → List ℕ
behind specific asc ascq = 10 ∷ (to_be_bytes w32 specific ++ (asc ∷ ascq ∷ replicate 4 0))

behind_bytes : (specific asc ascq : ℕ) → asc < 256 → ascq < 256 → IsBytes (behind specific asc ascq)
unfolding behind
behind_bytes specific asc ascq a q =
    more_bytes 10 (to_be_bytes w32 specific ++ (asc ∷ ascq ∷ replicate 4 0)) (lit< tt)
    (bytes_append (to_be_bytes w32 specific) (asc ∷ ascq ∷ replicate 4 0) (four_bytes specific)
    (more_bytes asc (ascq ∷ replicate 4 0) a (more_bytes ascq (replicate 4 0) q (zeros 4))))

all_bytes : (code key : ℕ) (before rest : List ℕ) → code < 256 → key < 256 → IsBytes before → IsBytes rest → IsBytes (code ∷ 0 ∷ key ∷ (before ++ rest))
all_bytes code key before rest c k before_fit rest_fit =
    more_bytes code (0 ∷ key ∷ (before ++ rest)) c (more_bytes 0 (key ∷ (before ++ rest)) (lit< tt)
    (more_bytes key (before ++ rest) k (bytes_append before rest before_fit rest_fit)))

-- the bytes of sense data are 18 bytes, and their fields are its own
record IsTold (s : Sense) : Type 0 where
  long : length (sense_bytes s) ≡ 18
  bytes : IsBytes (sense_bytes s)
  fields : fields_of (sense_bytes s) ≡ s

told : (key specific asc ascq : ℕ) (information : Option ℕ)
    → IsSense (record { key = key; information = information; specific = specific; asc = asc; ascq = ascq })
    → IsTold (record { key = key; information = information; specific = specific; asc = asc; ascq = ascq })
unfolding behind
told key specific asc ascq None fit = record {
  long = refl;
  bytes = all_bytes 0x70 key (replicate 4 0) (behind specific asc ascq) (lit< tt) fit.key (zeros 4) (behind_bytes specific asc ascq fit.asc fit.ascq);
  fields = ap (λ (m : ℕ). let s : Sense = record { key = key; information = None; specific = m; asc = asc; ascq = ascq } in s) (from_be_bytes-to_be_bytes_4 specific fit.specific);
}
told key specific asc ascq (Some n) fit = record {
  long = refl;
  bytes = all_bytes 0xF0 key (to_be_bytes w32 n) (behind specific asc ascq) (lit< tt) fit.key (four_bytes n) (behind_bytes specific asc ascq fit.asc fit.ascq);
  fields = ap (λ (m : ℕ). let s : Sense = record { key = key; information = Some m; specific = from_be_bytes w32 (to_be_bytes w32 specific); asc = asc; ascq = ascq } in s) (from_be_bytes-to_be_bytes_4 n (fit.information n refl))
      ∙ ap (λ (m : ℕ). let s : Sense = record { key = key; information = Some n; specific = m; asc = asc; ascq = ascq } in s) (from_be_bytes-to_be_bytes_4 specific fit.specific);
}

-- sense data whose fields and bytes these are
from_fields : (bytes : List ℕ) (s : Sense) → fields_of bytes ≡ s → sense_bytes s ≡ bytes → sense_from bytes ≡ Some s
from_fields bytes s e h =
    let same : bytes_eq (sense_bytes (fields_of bytes)) bytes ≡ true = (bytes_eq-Decides (sense_bytes (fields_of bytes)) bytes).1 (ap sense_bytes e ∙ h) in
    ap (λ b. if b then Some (fields_of bytes) else None) same ∙ ap Some e

pub sense_again : (s : Sense) → IsSense s → sense_of (hex_of (sense_bytes s)) ≡ Some s
unfolding sense_of
sense_again s fits =
    let t = told s.key s.specific s.asc s.ascq s.information fits in
    ap (λ (r : Result (List ℕ) FromHexError). result_ok r >>= sense_from) (sized_again (sense_bytes s) 18 t.long t.bytes)
    ∙ from_fields (sense_bytes s) s t.fields refl

pub sense_is_bytes : (s : Sense) → IsSense s → IsBytes (sense_bytes s)
sense_is_bytes s fits = (told s.key s.specific s.asc s.ascq s.information fits).bytes
