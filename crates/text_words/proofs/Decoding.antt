-- Digits read by a table, and pairs of them one after another.
use Rattle.std.proofs.Common.{◌≡◌, ℕ, zero, suc, ◌+◌, ◌*◌, ◌%◌, ◌<◌, ◌≤◌, Bool, true, false, ◌&&◌, T, eqb, inl, inr, nat_lt, cond, ◌==◌, max, is_lt, Less, Equal, Greater, List, [], ◌∷◌, length, take, drop, get_or, slice_index, slice_set, Option, Some, None, Ok, Err, refl, ap, ap₂, ◌∙◌, arith, eqb→eq}
use Rattle.std.specs.Prelude.{if◌then◌else◌, Result}
use Rattle.std.specs.Result.{result_ok}
use Rattle.std.specs.Ordering.{ord_max, nat_cmp}
use Rattle.std.proofs.lemmas.Bool.{cases_lt, lt-ltb, le-ltb}
use lib.Ieee.Fits.{and_l, and_r}
use Rattle.hex.specs.Hex.{hex_digit_value, digit_or_error, pair_value, decode_pairs, ◌>>=◌}
use Rattle.hex.specs.declared.error.FromHexError.{FromHexError}
use Rattle.hex.specs.declared.error.FromHexError.TheVariants.{InvalidHexCharacter}
use Rattle.hex.proofs.Pairs.{prepend, decode_step, decode_err}
use Rattle.text_words.specs.declared.digits.TheConstants.{WORTHS}

-- what a worth tells of a digit
abbrev pub told : ℕ → Option ℕ
told worth = if nat_lt worth 16 then Some worth else None

told_some : (worth : ℕ) → worth < 16 → told worth ≡ Some worth
told_some worth less = ap (λ (b : Bool). if b then Some worth else None) (lt-ltb worth 16 less)

told_none : (worth : ℕ) → 16 ≤ worth → told worth ≡ None
told_none worth more = ap (λ (b : Bool). if b then Some worth else None) (le-ltb worth 16 more)

abbrev same_worth : Option ℕ → Option ℕ → Bool
same_worth None None = true
same_worth None (Some y) = false
same_worth (Some x) None = false
same_worth (Some x) (Some y) = eqb x y

same_from_worth : (x y : Option ℕ) → T (same_worth x y) → x ≡ y
same_from_worth None None h = refl
same_from_worth None (Some y) h = absurd h
same_from_worth (Some x) None h = absurd h
same_from_worth (Some x) (Some y) h = ap Some (eqb→eq x y h)

-- the worths of the characters from one on
abbrev worths_are : ℕ → List ℕ → Bool
worths_are from [] = true
worths_are from (worth ∷ worths) = same_worth (hex_digit_value from) (told worth) && worths_are (suc from) worths

worth_from : (from : ℕ) (worths : List ℕ) → T (worths_are from worths) → (k : ℕ) → k < length worths → hex_digit_value (from + k) ≡ told (get_or worths k 0)
worth_from from [] h k l = absurd (omega arith)
worth_from from (worth ∷ worths) h zero l = ap hex_digit_value (let e : from + 0 ≡ from = omega arith in e) ∙ same_from_worth (hex_digit_value from) (told worth) (and_l _ _ h)
worth_from from (worth ∷ worths) h (suc k) l =
    ap hex_digit_value (let e : from + suc k ≡ suc from + k = omega arith in e) ∙ worth_from (suc from) worths (and_r (same_worth (hex_digit_value from) (told worth)) _ h) k (omega arith)

worths_hold : T (worths_are 0 WORTHS)
worths_hold = tt

pub digit_worth : (c : ℕ) → c < 256 → hex_digit_value c ≡ told (get_or WORTHS c 0)
digit_worth c less = ap hex_digit_value (let e : c ≡ 0 + c = omega arith in e) ∙ worth_from 0 WORTHS worths_hold c less

-- the greater of two worths
not_less : (a b : ℕ) (same : Bool) → cond (is_lt (cond same Equal Greater)) a b ≡ b
not_less a b true = refl
not_less a b false = refl

pub greater : (a b : ℕ) → ord_max nat_cmp a b ≡ max a b
greater a b = elim (cases_lt b a) [
  | inl less ↦ ap (λ t. cond (is_lt (cond t Less (cond (b == a) Equal Greater))) a b) (lt-ltb b a less) ∙ omega arith
  | inr more ↦ ap (λ t. cond (is_lt (cond t Less (cond (b == a) Equal Greater))) a b) (le-ltb b a more) ∙ not_less a b (b == a) ∙ omega arith
]

-- a pair of characters, by their digits
abbrev pair_from : ℕ → ℕ → ℕ → Option ℕ → Option ℕ → Result ℕ FromHexError
pair_from a b i x y = digit_or_error a i x >>= (λ h. digit_or_error b (i + 1) y >>= (λ l. Ok (h * 16 + l)))

-- the next pair is of digits
pub next_pair : (s out : List ℕ) (i h l : ℕ) → 2 * i + 1 < length s → i < length out
    → hex_digit_value (slice_index s (2 * i)) ≡ told h → hex_digit_value (slice_index s (2 * i + 1)) ≡ told l → h < 16 → l < 16
    → decode_pairs 0 s ≡ prepend (take i out) (decode_pairs (2 * i) (drop (2 * i) s))
    → decode_pairs 0 s ≡ prepend (take (i + 1) (slice_set out i (h % 16 * 16 + l % 16))) (decode_pairs (2 * (i + 1)) (drop (2 * (i + 1)) s))
next_pair s out i h l fits room high low hless lless before =
    let a = slice_index s (2 * i) in
    let b = slice_index s (2 * i + 1) in
    let byte : h * 16 + l ≡ h % 16 * 16 + l % 16 = omega arith in
    let pair : pair_value a b (2 * i) ≡ Ok (h % 16 * 16 + l % 16) = ap₂ (pair_from a b (2 * i)) (high ∙ told_some h hless) (low ∙ told_some l lless) ∙ ap Ok byte in
    decode_step s out i (h % 16 * 16 + l % 16) fits room pair before

-- the next pair isn't
pub other_pair : (s out : List ℕ) (i h l : ℕ) → 2 * i + 1 < length s
    → hex_digit_value (slice_index s (2 * i)) ≡ told h → hex_digit_value (slice_index s (2 * i + 1)) ≡ told l → (h < 16 → 16 ≤ l)
    → decode_pairs 0 s ≡ prepend (take i out) (decode_pairs (2 * i) (drop (2 * i) s))
    → result_ok (decode_pairs 0 s) ≡ None
other_pair s out i h l fits high low other before = elim (cases_lt h 16) [
  | inl less ↦
      let pair : pair_value (slice_index s (2 * i)) (slice_index s (2 * i + 1)) (2 * i) ≡ Err (InvalidHexCharacter (slice_index s (2 * i + 1)) (2 * i + 1)) =
      ap₂ (pair_from (slice_index s (2 * i)) (slice_index s (2 * i + 1)) (2 * i)) (high ∙ told_some h less) (low ∙ told_none l (other less)) in
      ap result_ok (decode_err s out i _ fits pair before)
  | inr more ↦
      let pair : pair_value (slice_index s (2 * i)) (slice_index s (2 * i + 1)) (2 * i) ≡ Err (InvalidHexCharacter (slice_index s (2 * i)) (2 * i)) =
      ap (λ x. pair_from (slice_index s (2 * i)) (slice_index s (2 * i + 1)) (2 * i) x (hex_digit_value (slice_index s (2 * i + 1)))) (high ∙ told_none h more) in
      ap result_ok (decode_err s out i _ fits pair before)
]
