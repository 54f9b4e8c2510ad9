-- The word decoder's tables give what settling four pairs gives, tried at each state and eight channel bits.
use Rattle.std.proofs.Common.{◌≡◌, ℕ, ◌+◌, ◌*◌, ◌/◌, ◌%◌, ◌^◌, ◌<◌, Bool, true, ◌&&◌, nat_eq, List, [], length, get_or, refl, sym, subst, ap, ◌∙◌, eqb-true, arith}
use Rattle.std.proofs.Math.Dec.{ltb}
use Rattle.std.proofs.lemmas.Bool.{and_parts, ltb-true}
use Rattle.bit_words.specs.Words.{first_bits}
use Rattle.rll_code.specs.Steps.{IsState, right_beginnings, Settles}
use Rattle.rll_code.specs.declared.word_tables.TheConstants.{SETTLED, FOLLOWING}
use Rattle.rll_code.proofs.DecoderTable.{matches, passed_settles}
use Rattle.rll_code.proofs.Settling.{state_of, waiting_in, Settled, settle_pairs, ArePairs}
use Rattle.rll_code.proofs.TableTests.{all_from, entry_passes}

abbrev settled_by : ℕ → ℕ → Settled
settled_by line eight = settle_pairs (waiting_in line) (first_bits 8 eight)

-- whether an entry holds the bits and flags that are settled, in seven bits each
abbrev holds : ℕ → ℕ → ℕ → Bool
holds line eight x =
    ltb (x % 65536) 128 && (ltb (x / 65536) 128 && matches (settled_by line eight) (length (get_or right_beginnings line []) / 2) (x % 65536, (x / 65536, state_of (settled_by line eight).waits)))

-- whether a row holds the next state of a line
abbrev follows : ℕ → ℕ → ℕ → List Bool → Bool
follows eight row line waiting = nat_eq (64 * (row / 2 ^ (4 * line) / 4 % 16 * 4)) (state_of (settled_by line eight).waits)

settled_pass : all_from (λ at x. holds (at % 16) (at / 16) x) 0 SETTLED ≡ true
unfolding all_from first_bits
settled_pass = refl

following_pass : all_from (λ eight row. all_from (follows eight row) 0 right_beginnings) 0 FOLLOWING ≡ true
unfolding all_from first_bits
following_pass = refl

eight_are_pairs : (n : ℕ) → ArePairs (first_bits 8 n)
unfolding first_bits
eight_are_pairs n = tt

-- an entry that holds what is settled
pub record SettledIn (state eight x next : ℕ) : Type 0 where
  pub settles : Settles (64 * state) (first_bits 8 eight) (x % 65536) (x / 65536) (64 * next)
  pub bits : x % 65536 < 128
  pub flags : x / 65536 < 128

pub word_tables_settle : (state eight : ℕ) → IsState 10 (64 * state) → eight < 256 → SettledIn state eight (get_or SETTLED (16 * eight + state / 4) 0) (get_or FOLLOWING eight 0 / 2 ^ state / 4 % 16 * 4)
word_tables_settle state eight known fits =
    let line = 64 * state / 256 in
    let less : line < 10 = known.0 in
    let at = 16 * eight + state / 4 in
    let x = get_or SETTLED at 0 in
    let row = get_or FOLLOWING eight 0 in
    let is_state : 4 * line ≡ state = omega (arith, known.1) in
    let is_line : at % 16 ≡ line = omega (arith, known.1) in
    let is_eight : at / 16 ≡ eight = omega (arith, known.1) in
    let all : 0 + at ≡ at = omega arith in
    let first : 0 + eight ≡ eight = omega arith in
    let nth : 0 + line ≡ line = omega arith in
    let passed = entry_passes (λ at x. holds (at % 16) (at / 16) x) 0 SETTLED settled_pass at 0 (omega arith) in
    let of_place : holds (at % 16) (at / 16) x ≡ true = subst (λ n. holds (n % 16) (n / 16) x ≡ true) all passed in
    let of_line : holds line (at / 16) x ≡ true = subst (λ n. holds n (at / 16) x ≡ true) is_line of_place in
    let of_eight : holds line eight x ≡ true = subst (λ n. holds line n x ≡ true) is_eight of_line in
    let s = settled_by line eight in
    let test = matches s (length (get_or right_beginnings line []) / 2) (x % 65536, (x / 65536, state_of s.waits)) in
    let low = and_parts (ltb (x % 65536) 128) (ltb (x / 65536) 128 && test) of_eight in
    let high = and_parts (ltb (x / 65536) 128) test low.1 in
    let rows = entry_passes (λ eight row. all_from (follows eight row) 0 right_beginnings) 0 FOLLOWING following_pass eight 0 (omega arith) in
    let of_row : all_from (follows eight row) 0 right_beginnings ≡ true = subst (λ n. all_from (follows n row) 0 right_beginnings ≡ true) first rows in
    let passes_line = entry_passes (follows eight row) 0 right_beginnings of_row line [] less in
    let of_state : follows eight row line [] ≡ true = subst (λ n. follows eight row n (get_or right_beginnings line []) ≡ true) nth passes_line in
    let next : 64 * (row / 2 ^ (4 * line) / 4 % 16 * 4) ≡ state_of s.waits = eqb-true _ _ of_state in
    let following : state_of s.waits ≡ 64 * (row / 2 ^ state / 4 % 16 * 4) = sym next ∙ ap (λ n. 64 * (row / 2 ^ n / 4 % 16 * 4)) is_state in
    record {
      settles = subst (λ n. Settles (64 * state) (first_bits 8 eight) (x % 65536) (x / 65536) n) following (passed_settles (64 * state) (first_bits 8 eight) (x % 65536) (x / 65536) (state_of s.waits) known (eight_are_pairs eight) high.1);
      bits = ltb-true _ _ low.0;
      flags = ltb-true _ _ high.0;
    }
