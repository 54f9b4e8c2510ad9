-- What the encoder has written after so many bytes.
use Rattle.std.proofs.Common.{◌/◌, ◌≡◌, ℕ, ◌+◌, ◌-◌, ◌*◌, ◌<◌, ◌≤◌, Bool, List, [], ◌∷◌, ◌++◌, length, take, drop, get_or, sym, ap, ◌∙◌, append_assoc, length-append, length-drop, arith}
use Rattle.std.specs.List.{flat_map}
use Rattle.std.proofs.lemmas.List.{append-nil, take_all, take-take, take-append-le, take_more, drop_all, length-take-le}
use Rattle.std.proofs.lemmas.List.Concat.{flat_map-append}
use borrow.Rule.Slice.PartMut.{put_mid}
use Rattle.rll_code.specs.Bits.{byte_bits, low_bits}
use Rattle.rll_code.specs.Code.{Row, left_side, right_side, tail, IsCode}
use Rattle.rll_code.specs.Steps.{IsState, left_beginnings, bits_waiting, Advances, Finishes}
use Rattle.rll_code.proofs.BitLists.{take_past, length-low_bits}
use Rattle.rll_code.proofs.EncoderTable.{below_six}
use Rattle.rll_code.proofs.Rows.{twice_as_long}

-- how many message bits wait in a state
abbrev pub waiting : ℕ → ℕ
waiting state = length (bits_waiting state)

-- whole rows and what waits make up the first bytes, and the rows' channel bits are written
pub record Encoded (bytes : List ℕ) (out : List Bool) (state i : ℕ) : Type 0 where
  pub split : List Row
  pub left : flat_map left_side split ++ bits_waiting state ≡ flat_map byte_bits (take i bytes)
  pub right : take (16 * i - 2 * waiting state) out ≡ flat_map right_side split
  pub placed : 2 * waiting state ≤ 16 * i
  pub known : IsState 6 state

pub waits_at_most_three : (state : ℕ) → IsState 6 state → length (bits_waiting state) ≤ 3
waits_at_most_three state known = below_six (λ n. length (get_or left_beginnings n []) ≤ 3) (omega arith) (omega arith) (omega arith) (omega arith) (omega arith) (omega arith) (state / 256) known.0

-- the word's beginning stands behind what was written before
written : (out ys word : List Bool) (a k n m : ℕ) → a ≤ length out → ys ≡ take n word → m ≤ n → n ≤ length word → take (a + m) (put_mid a k out ys) ≡ take a out ++ take m word
written out ys word a k n m inside is short fits =
    let long : length ys ≡ n = ap length is ∙ length-take-le n word fits in
    take_past (take a out) (ys ++ drop k (drop a out)) a m (length-take-le a out inside)
    ∙ ap (λ l. take a out ++ l) (take-append-le m ys (drop k (drop a out)) (omega arith) ∙ ap (take m) is ∙ take-take m n word short)

-- one byte more
pub encoded_more : (bytes : List ℕ) (out ys : List Bool) (state i word next a k n : ℕ) → Encoded bytes out state i → i < length bytes → Advances state (get_or bytes i 0) word next → ys ≡ take n (low_bits 24 word) → n ≡ 22 → a ≡ 16 * i - 2 * waiting state → a ≤ length out → Encoded bytes (put_mid a k out ys) next (i + 1)
encoded_more bytes out ys state i word next a k n so_far less step is all at inside =
    let byte = get_or bytes i 0 in
    let completed = flat_map right_side step.whole in
    let m = length completed in
    let lengths : m + 2 * waiting next ≡ 2 * (waiting state + 8) = omega (arith, twice_as_long step.whole, ap length step.left, length-append (flat_map left_side step.whole) (bits_waiting next), length-append (bits_waiting state) (byte_bits byte), length-low_bits 8 byte) in
    let few = waits_at_most_three state so_far.known in
    let placed = so_far.placed in
    let next_at : 16 * (i + 1) - 2 * waiting next ≡ a + m = omega arith in
    let long : length (low_bits 24 word) ≡ 24 = length-low_bits 24 word in
    record {
      split = so_far.split ++ step.whole;
      left =
          ap (λ l. l ++ bits_waiting next) (flat_map-append left_side so_far.split step.whole)
          ∙ append_assoc (flat_map left_side so_far.split) (flat_map left_side step.whole) (bits_waiting next)
          ∙ ap (λ l. flat_map left_side so_far.split ++ l) step.left
          ∙ sym (append_assoc (flat_map left_side so_far.split) (bits_waiting state) (byte_bits byte))
          ∙ ap (λ l. l ++ byte_bits byte) so_far.left
          ∙ ap (λ l. flat_map byte_bits (take i bytes) ++ l) (sym (append-nil (byte_bits byte)))
          ∙ sym (flat_map-append byte_bits (take i bytes) (byte ∷ []))
          ∙ ap (λ l. flat_map byte_bits l) (sym (take_more bytes i 0 less));
      right =
          ap (λ n. take n (put_mid a k out ys)) next_at
          ∙ written out ys (low_bits 24 word) a k n m inside is (omega arith) (omega arith)
          ∙ ap (λ l. take a out ++ l) step.right
          ∙ ap (λ x. take x out ++ completed) at
          ∙ ap (λ l. l ++ completed) so_far.right
          ∙ sym (flat_map-append right_side so_far.split step.whole);
      placed = omega arith;
      known = step.known;
    }

-- the tail
pub encoded_all : (bytes : List ℕ) (out ys : List Bool) (state word a k n : ℕ) → Encoded bytes out state (length bytes) → Finishes state word → ys ≡ take n (low_bits 24 word) → n ≡ 2 * waiting state + 6 → a ≡ 16 * length bytes - 2 * waiting state → a + n ≡ length out → k ≡ n → IsCode bytes (put_mid a k out ys)
encoded_all bytes out ys state word a k n so_far step is whole at fits all =
    let completed = flat_map right_side step.whole in
    let total : n ≡ length completed = omega (arith, twice_as_long step.whole, ap length step.left, length-append (bits_waiting state) tail) in
    let front : take n (low_bits 24 word) ≡ completed = ap (λ m. take m (low_bits 24 word)) total ∙ step.right in
    let rest : drop k (drop a out) ≡ [] = drop_all k (drop a out) (omega (arith, length-drop a out)) in
    record {
      split = so_far.split ++ step.whole;
      left =
          flat_map-append left_side so_far.split step.whole
          ∙ ap (λ l. flat_map left_side so_far.split ++ l) step.left
          ∙ sym (append_assoc (flat_map left_side so_far.split) (bits_waiting state) tail)
          ∙ ap (λ l. l ++ tail) (so_far.left ∙ ap (λ l. flat_map byte_bits l) (take_all (length bytes) bytes (omega arith)));
      right =
          flat_map-append right_side so_far.split step.whole
          ∙ ap (λ l. l ++ completed) (sym so_far.right ∙ ap (λ x. take x out) (sym at))
          ∙ ap (λ l. take a out ++ l) (sym front ∙ sym is ∙ sym (append-nil ys) ∙ ap (λ l. ys ++ l) (sym rest));
    }
