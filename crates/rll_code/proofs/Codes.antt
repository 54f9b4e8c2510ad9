-- Codes of messages: how long they are, that there is one for each message, and what reading one gives.
use Rattle.std.proofs.Common.{◌≡◌, ℕ, zero, suc, ◌+◌, ◌*◌, ◌%◌, ◌^◌, ◌<◌, ◌≤◌, Bool, true, false, eqb, List, [], ◌∷◌, ◌++◌, map, length, replicate, All, refl, sym, ap, ◌∙◌, append_assoc, length-append, arith}
use Rattle.std.specs.List.{flat_map}
use Rattle.std.proofs.lemmas.List.{append-nil, append_cancel_left, map-append, length-map}
use Rattle.std.proofs.lemmas.Nat.{mod-pow-add}
use Rattle.std.specs.Int.{bit_at}
use Rattle.rll_code.specs.Bits.{byte_bits, low_bits, number, octets}
use Rattle.rll_code.specs.Code.{Row, row_10, row_11, row_000, row_010, row_011, row_0010, row_0011, left_side, right_side, tail, message_bits, IsCode}
use Rattle.rll_code.specs.Reading.{sure, reading, reading_after, byte_of, is_flagged}
use Rattle.rll_code.specs.Laws.{LeftSidesAreComplete, HasOneCode, ReadsBack}
use Rattle.rll_code.proofs.BitLists.{digit, number-cons, length-low_bits}
use Rattle.rll_code.proofs.Octets.{octets_short, octets_eight}
use Rattle.rll_code.proofs.Rows.{twice_as_long}
use Rattle.rll_code.proofs.Splitting.{Beginning, none, split_bit, split_bits, beginning_bits, bits_split, tail_completes}

length-message : (bytes : List ℕ) → length (flat_map byte_bits bytes) ≡ 8 * length bytes
length-message [] = refl
length-message (b ∷ bytes) = omega (arith, length-append (byte_bits b) (flat_map byte_bits bytes), length-low_bits 8 b, length-message bytes)

pub length-code : (bytes : List ℕ) (channel : List Bool) → IsCode bytes channel → length channel ≡ 2 * (8 * length bytes + 3)
length-code bytes channel code =
    omega (arith, ap length code.right, twice_as_long code.split, ap length code.left, length-append (flat_map byte_bits bytes) tail, length-message bytes)

-- the row whose left side begins the bits
abbrev front_row : List Bool → Row
front_row (true ∷ false ∷ rest) = row_10
front_row (true ∷ true ∷ rest) = row_11
front_row (false ∷ true ∷ false ∷ rest) = row_010
front_row (false ∷ true ∷ true ∷ rest) = row_011
front_row (false ∷ false ∷ true ∷ false ∷ rest) = row_0010
front_row (false ∷ false ∷ true ∷ true ∷ rest) = row_0011
front_row _ = row_000

front-row : (r : Row) (rest : List Bool) → front_row (left_side r ++ rest) ≡ r
front-row row_10 rest = refl
front-row row_11 rest = refl
front-row row_000 rest = refl
front-row row_010 rest = refl
front-row row_011 rest = refl
front-row row_0010 rest = refl
front-row row_0011 rest = refl

left_side_long : (r : Row) → 2 ≤ length (left_side r)
left_side_long row_10 = omega arith
left_side_long row_11 = omega arith
left_side_long row_000 = omega arith
left_side_long row_010 = omega arith
left_side_long row_011 = omega arith
left_side_long row_0010 = omega arith
left_side_long row_0011 = omega arith

-- bits split into rows in one way
split_once : (rs ss : List Row) → flat_map left_side rs ≡ flat_map left_side ss → rs ≡ ss
split_once [] [] e = refl
split_once [] (s ∷ ss) e = absurd (omega (arith, ap length e, left_side_long s, length-append (left_side s) (flat_map left_side ss)))
split_once (r ∷ rs) [] e = absurd (omega (arith, ap length e, left_side_long r, length-append (left_side r) (flat_map left_side rs)))
split_once (r ∷ rs) (s ∷ ss) e =
    let same_row : r ≡ s = sym (front-row r (flat_map left_side rs)) ∙ ap front_row e ∙ front-row s (flat_map left_side ss) in
    let aligned : left_side r ++ flat_map left_side rs ≡ left_side r ++ flat_map left_side ss = e ∙ ap (λ x. left_side x ++ flat_map left_side ss) (sym same_row) in
    let others = split_once rs ss (append_cancel_left (left_side r) (flat_map left_side rs) (flat_map left_side ss) aligned) in
    ap (λ x. x ∷ rs) same_row ∙ ap (λ l. s ∷ l) others

pub one_code : (bytes : List ℕ) → HasOneCode bytes
one_code bytes a b code_a code_b =
    sym code_a.right ∙ ap (λ l. flat_map right_side l) (split_once code_a.split code_b.split (code_a.left ∙ sym code_b.left)) ∙ code_b.right

-- what waits after more bits is what waits after them behind the others
split_on : (b : Beginning) (xs ys : List Bool) → (split_bits b (xs ++ ys)).waits ≡ (split_bits (split_bits b xs).waits ys).waits
split_on b [] ys = refl
split_on b (x ∷ xs) ys = split_on (split_bit b x).waits xs ys

-- each message has a code
pub some_code : (bytes : List ℕ) → (channel : List Bool) × IsCode bytes channel
some_code bytes =
    let bits = message_bits bytes in
    let s = split_bits none bits in
    let waits : s.waits ≡ none = split_on none (flat_map byte_bits bytes) tail ∙ tail_completes (split_bits none (flat_map byte_bits bytes)).waits in (
      flat_map right_side s.whole,
      record {
        split = s.whole;
        left = sym (append-nil (flat_map left_side s.whole)) ∙ ap (λ w. flat_map left_side s.whole ++ beginning_bits w) (sym waits) ∙ bits_split none bits;
        right = refl;
      },
    )

row_reads : (r : Row) (more : List Bool) → reading (right_side r ++ more) ≡ map sure (left_side r) ++ reading more
unfolding reading_after
row_reads row_10 more = refl
row_reads row_11 more = refl
row_reads row_000 more = refl
row_reads row_010 more = refl
row_reads row_011 more = refl
row_reads row_0010 more = refl
row_reads row_0011 more = refl

-- reading right sides gives the left sides
rows_read : (rs : List Row) → reading (flat_map right_side rs) ≡ map sure (flat_map left_side rs)
unfolding reading_after
rows_read [] = refl
rows_read (r ∷ rs) =
    row_reads r (flat_map right_side rs)
    ∙ ap (λ l. map sure (left_side r) ++ l) (rows_read rs)
    ∙ sym (map-append sure (left_side r) (flat_map left_side rs))

bits_of_sure : (xs : List Bool) → map (λ b. b.bit) (map sure xs) ≡ xs
bits_of_sure [] = refl
bits_of_sure (x ∷ xs) = ap (λ l. x ∷ l) (bits_of_sure xs)

pub sure_not_flagged : (xs : List Bool) → is_flagged (map sure xs) ≡ false
sure_not_flagged [] = refl
sure_not_flagged (x ∷ xs) = sure_not_flagged xs

digit-one : (n : ℕ) → n < 2 → digit (eqb n 1) ≡ n
digit-one zero less = refl
digit-one (suc zero) less = refl
digit-one (suc (suc n)) less = absurd (omega arith)

-- the lowest bits spell what is left of a division by their power
number-low_bits : (k n : ℕ) → number (low_bits k n) ≡ n % 2 ^ k
unfolding low_bits
number-low_bits zero n = omega arith
number-low_bits (suc k) n =
    let one_more : 1 + k ≡ suc k = omega arith in
    number-cons (eqb (bit_at n k) 1) (low_bits k n)
    ∙ ap (λ d. d * 2 ^ length (low_bits k n) + number (low_bits k n)) (digit-one (bit_at n k) (omega arith))
    ∙ ap (λ l. bit_at n k * 2 ^ l + number (low_bits k n)) (length-low_bits k n)
    ∙ ap (λ m. bit_at n k * 2 ^ k + m) (number-low_bits k n)
    ∙ sym (mod-pow-add n 1 k)
    ∙ ap (λ e. n % 2 ^ e) one_more

byte_back : (b : ℕ) → b < 256 → byte_of (map sure (byte_bits b)) ≡ b
byte_back b fits = ap number (bits_of_sure (byte_bits b)) ∙ number-low_bits 8 b ∙ (let e : b % 2 ^ 8 ≡ b = omega arith in e)

-- the message's octets, without the tail
message_octets : (bytes : List ℕ) → octets (map sure (message_bits bytes)) ≡ map (λ b. map sure (byte_bits b)) bytes
message_octets [] = octets_short (map sure tail) (omega arith)
message_octets (b ∷ bytes) =
    let rest = flat_map byte_bits bytes in
    ap (λ l. octets (map sure l)) (append_assoc (byte_bits b) rest tail)
    ∙ ap octets (map-append sure (byte_bits b) (rest ++ tail))
    ∙ octets_eight (map sure (byte_bits b)) (map sure (rest ++ tail)) (length-map (byte_bits b) sure ∙ length-low_bits 8 b)
    ∙ ap (λ l. map sure (byte_bits b) ∷ l) (message_octets bytes)

bytes_back : (bytes : List ℕ) → All (λ b. b < 256) bytes → map byte_of (map (λ b. map sure (byte_bits b)) bytes) ≡ bytes
bytes_back [] small = refl
bytes_back (b ∷ bytes) small =
    ap (λ x. x ∷ map byte_of (map (λ c. map sure (byte_bits c)) bytes)) (byte_back b (small 0 0 (omega arith)))
    ∙ ap (λ l. b ∷ l) (bytes_back bytes (λ k d less. small (suc k) d (omega arith)))

none_flagged : (bytes : List ℕ) → map is_flagged (map (λ b. map sure (byte_bits b)) bytes) ≡ replicate (length bytes) false
none_flagged [] = refl
none_flagged (b ∷ bytes) =
    ap (λ x. x ∷ map is_flagged (map (λ c. map sure (byte_bits c)) bytes)) (sure_not_flagged (byte_bits b))
    ∙ ap (λ l. false ∷ l) (none_flagged bytes)

pub reads_back : (bytes : List ℕ) (channel : List Bool) → All (λ b. b < 256) bytes → IsCode bytes channel → ReadsBack bytes channel
reads_back bytes channel small code =
    let read : reading channel ≡ map sure (message_bits bytes) = ap reading (sym code.right) ∙ rows_read code.split ∙ ap (λ l. map sure l) code.left in
    let pieces : octets (reading channel) ≡ map (λ b. map sure (byte_bits b)) bytes = ap octets read ∙ message_octets bytes in
    record {
      bytes_back = ap (λ l. map byte_of l) pieces ∙ bytes_back bytes small;
      none_flagged = ap (λ l. map is_flagged l) pieces ∙ none_flagged bytes;
    }

-- four bits or more begin with a left side
pub complete : LeftSidesAreComplete
complete (true ∷ false ∷ rest) long = (row_10, rest, refl)
complete (true ∷ true ∷ rest) long = (row_11, rest, refl)
complete (false ∷ false ∷ false ∷ rest) long = (row_000, rest, refl)
complete (false ∷ true ∷ false ∷ rest) long = (row_010, rest, refl)
complete (false ∷ true ∷ true ∷ rest) long = (row_011, rest, refl)
complete (false ∷ false ∷ true ∷ false ∷ rest) long = (row_0010, rest, refl)
complete (false ∷ false ∷ true ∷ true ∷ rest) long = (row_0011, rest, refl)
complete [] long = absurd (omega arith)
complete (x ∷ []) long = absurd (omega arith)
complete (x ∷ y ∷ []) long = absurd (omega arith)
complete (x ∷ y ∷ z ∷ []) long = absurd (omega arith)
