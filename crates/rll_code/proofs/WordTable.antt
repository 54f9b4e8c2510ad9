-- The tables for words give what splitting a byte or the tail gives, tried at each state.
use Rattle.std.proofs.Common.{◌≡◌, ℕ, ◌+◌, ◌-◌, ◌*◌, ◌^◌, ◌/◌, ◌<◌, ◌≤◌, Bool, nat_eq, true, zip, List, ◌++◌, length, get_or, refl, sym, ap, ◌∙◌, eqb-true, length-append, arith}
use Rattle.std.specs.List.{flat_map}
use Rattle.std.specs.Simd.Lanes.{mask_l}
use Rattle.std.proofs.lemmas.Nat.{shl_below, pow_below}
use Rattle.std.proofs.lemmas.Simd.{mask_l-lt}
use Rattle.rll_code.specs.Bits.{byte_bits, low_bits}
use Rattle.rll_code.specs.Code.{Row, left_side, right_side, tail}
use Rattle.rll_code.specs.Steps.{IsState, bits_waiting}
use Rattle.rll_code.specs.Words.{placed_number, Places}
use Rattle.rll_code.specs.declared.tables.TheConstants.{PENDING}
use Rattle.rll_code.specs.declared.word_tables.TheConstants.{PLACED, TAILS}
use Rattle.rll_code.proofs.EncoderTable.{RowTest, passes, splits, below_six, beginning_in, beginning-state, bits-beginning}
use Rattle.rll_code.proofs.Encoding.{waits_at_most_three}
use Rattle.rll_code.proofs.Rows.{twice_as_long}
use Rattle.rll_code.proofs.Splitting.{none, beginning_bits, split_bits, bits_split, tail_completes}
use Rattle.rll_code.proofs.TableTests.{all_from, by_place}

-- whether an entry is the rows' channel bits, placed
abbrev is_placed : RowTest
is_placed line whole entry = nat_eq entry (placed_number (length (beginning_bits (beginning_in line))) (flat_map right_side whole))

placed_pass : all_from (by_place (passes is_placed)) 0 (zip PLACED PENDING) ≡ true
unfolding all_from low_bits
placed_pass = refl

-- what the tables hold for a state and a byte
pub table_places : (state byte : ℕ) → IsState 6 state → byte < 256 → Places state (byte_bits byte) (get_or PLACED (state + byte) 0) (get_or PENDING (state + byte) 0)
table_places state byte known fits =
    let s = splits is_placed PLACED PENDING refl refl refl placed_pass state byte known fits in
    record {
      whole = s.whole;
      left = s.left;
      right = eqb-true _ _ s.passed ∙ ap (λ l. placed_number (length l) (flat_map right_side s.whole)) (bits-beginning state known);
      known = s.known;
    }

-- whether the entry of a line is the channel bits of the rows that the tail completes, placed
abbrev tail_placed : ℕ → Type 0
tail_placed line = get_or TAILS line 0 ≡ placed_number (length (beginning_bits (beginning_in line))) (flat_map right_side (split_bits (beginning_in line) tail).whole)

tails_placed : (line : ℕ) → line < 6 → tail_placed line
tails_placed = below_six tail_placed refl refl refl refl refl refl

-- what the table holds for a state and the tail
pub table_places_tail : (state : ℕ) → IsState 6 state → Places state tail (get_or TAILS (state / 256) 0) 0
table_places_tail state known =
    let b = beginning_in (state / 256) in
    let s = split_bits b tail in
    record {
      whole = s.whole;
      left =
          ap (λ w. flat_map left_side s.whole ++ beginning_bits w) (sym (tail_completes b))
          ∙ bits_split b tail
          ∙ ap (λ l. l ++ tail) (bits-beginning state known);
      right = tails_placed (state / 256) known.0 ∙ ap (λ l. placed_number (length l) (flat_map right_side s.whole)) (bits-beginning state known);
      known = (beginning-state none).1;
    }

-- the channel bits are two for each bit that waited or came, less two for each that waits next
pub completed_long : (state next : ℕ) (more : List Bool) (whole : List Row) → flat_map left_side whole ++ bits_waiting next ≡ bits_waiting state ++ more
    → length (flat_map right_side whole) + 2 * length (bits_waiting next) ≡ 2 * (length (bits_waiting state) + length more)
completed_long state next more whole left =
    omega (arith, twice_as_long whole, ap length left, length-append (flat_map left_side whole) (bits_waiting next), length-append (bits_waiting state) more)

-- entries are small
pub placed_small : (state next placed : ℕ) (more : List Bool) → IsState 6 state → length more ≤ 8 → Places state more placed next → placed < 2 ^ 23
placed_small state next placed more known short step =
    let channel = flat_map right_side step.whole in
    let few = waits_at_most_three state known in
    let long = completed_long state next more step.whole step.left in
    let k = 6 - 2 * length (bits_waiting state) in
    let below : length channel + k < 23 = omega arith in
    let fits : placed_number (length (bits_waiting state)) channel < 2 ^ (length channel + k) = shl_below (mask_l channel) (length channel) k (mask_l-lt channel) in
    omega (arith, step.right, fits, pow_below (length channel + k) 23 below)
