-- Channel bits carried and written as words.
use Rattle.std.proofs.Common.{◌≡◌, ℕ, ◌+◌, ◌-◌, ◌*◌, ◌^◌, ◌/◌, ◌%◌, ◌<◌, ◌≤◌, Bool, false, List, [], ◌∷◌, ◌++◌, length, get_or, take, drop, set, refl, sym, ap, ◌∙◌, append_assoc, length-append, length-drop, arith}
use Rattle.std.specs.Prelude.{replicate}
use Rattle.std.specs.List.{flat_map}
use Rattle.std.specs.Simd.Lanes.{mask_l}
use Rattle.std.proofs.lemmas.List.{append-nil, take-append-drop, take-take, take_all, drop-take, take_at}
use Rattle.std.proofs.lemmas.List.Concat.{flat_map-append}
use Rattle.std.proofs.lemmas.Nat.{pow-add}
use Rattle.std.proofs.lemmas.Simd.{mask_l-lt}
use Rattle.std.proofs.Math.ListN.{length-set}
use Rattle.bit_words.specs.Words.{first_bits, word_bits}
use Rattle.bit_words.proofs.BitLists.{cuts, first_bits-cut, first_bits-mask_l, first_bits_cat, length-first_bits, mask_l-append, word_bits_more}
use Rattle.rll_code.specs.Bits.{byte_bits}
use Rattle.rll_code.specs.Code.{left_side, right_side, tail}
use Rattle.rll_code.specs.Steps.{bits_waiting}
use Rattle.rll_code.specs.Words.{placed_number, Places, Carries, HoldCode}
use Rattle.rll_code.proofs.BitLists.{length-low_bits}
use Rattle.rll_code.proofs.Encoding.{waits_at_most_three}
use Rattle.rll_code.proofs.WordTable.{completed_long}

-- what is carried and what is placed above it are one number
all_number : (kept channel : List Bool) (waiting : ℕ) → waiting ≤ 3 → length kept + 2 * waiting ≡ 16 → mask_l kept + 1024 * placed_number waiting channel ≡ mask_l (kept ++ channel)
all_number kept channel waiting few room =
    let rest = 2 ^ (6 - 2 * waiting) in
    let e : 10 + (6 - 2 * waiting) ≡ length kept = omega arith in
    let power : 1024 * rest ≡ 2 ^ length kept = sym (pow-add 2 10 (6 - 2 * waiting)) ∙ ap (λ n. 2 ^ n) e in
    let turned : 1024 * (mask_l channel * rest) ≡ mask_l channel * (1024 * rest) = omega arith in
    let placed : 1024 * (mask_l channel * rest) ≡ mask_l channel * 2 ^ length kept = turned ∙ ap (λ n. mask_l channel * n) power in
    let flip : mask_l kept + mask_l channel * 2 ^ length kept ≡ mask_l channel * 2 ^ length kept + mask_l kept = omega arith in
    ap (λ n. mask_l kept + n) placed ∙ flip ∙ sym (mask_l-append kept channel)

-- more message bits, and sixteen channel bits written
pub carries_more : (message written more : List Bool) (room state carry placed next all : ℕ) → all ≡ carry + 1024 * placed → 2 * length (bits_waiting next) ≤ room → room ≡ 2 * length more → Carries message written 16 state carry → Places state more placed next
    → Carries (message ++ more) (written ++ first_bits 16 (all % 65536)) room next (all / 65536)
carries_more message written more room state carry placed next all sum some long so_far step =
    let channel = flat_map right_side step.whole in
    let row = so_far.kept ++ channel in
    let waiting = length (bits_waiting state) in
    let few = waits_at_most_three state so_far.known in
    let number : all ≡ mask_l row = sum ∙ ap (λ n. n + 1024 * placed) so_far.carried ∙ ap (λ n. mask_l so_far.kept + 1024 * n) step.right ∙ all_number so_far.kept channel waiting few so_far.fills in
    let lengths = completed_long state next more step.whole step.left in
    let all_long : length row + 2 * length (bits_waiting next) ≡ 16 + room = omega (arith, length-append so_far.kept channel, so_far.fills) in
    let enough : 16 ≤ length row = omega arith in
    record {
      whole = so_far.whole ++ step.whole;
      kept = drop 16 row;
      left =
          ap (λ l. l ++ bits_waiting next) (flat_map-append left_side so_far.whole step.whole)
          ∙ append_assoc (flat_map left_side so_far.whole) (flat_map left_side step.whole) (bits_waiting next)
          ∙ ap (λ l. flat_map left_side so_far.whole ++ l) step.left
          ∙ sym (append_assoc (flat_map left_side so_far.whole) (bits_waiting state) more)
          ∙ ap (λ l. l ++ more) so_far.left;
      right =
          ap (λ l. replicate 16 false ++ l) (flat_map-append right_side so_far.whole step.whole)
          ∙ sym (append_assoc (replicate 16 false) (flat_map right_side so_far.whole) channel)
          ∙ ap (λ l. l ++ channel) so_far.right
          ∙ append_assoc written so_far.kept channel
          ∙ ap (λ l. written ++ l) (sym (take-append-drop 16 row) ∙ ap (λ l. l ++ drop 16 row) (sym (first_bits-cut 16 row enough) ∙ ap (λ n. first_bits 16 (n % 65536)) (sym number)))
          ∙ sym (append_assoc written (first_bits 16 (all % 65536)) (drop 16 row));
      carried = ap (λ n. n / 65536) number ∙ (cuts 16 row enough).above;
      fills = omega (arith, length-drop 16 row);
      known = step.known;
    }

-- four times sixteen bits of a word
pub four_bits : (a b c d : ℕ) → a < 65536 → b < 65536 → c < 65536 → first_bits 64 (((d * 65536 + c) * 65536 + b) * 65536 + a) ≡ first_bits 16 a ++ (first_bits 16 b ++ (first_bits 16 c ++ first_bits 16 d))
four_bits a b c d small_a small_b small_c =
    first_bits_cat 16 48 a ((d * 65536 + c) * 65536 + b) small_a
    ∙ ap (λ l. first_bits 16 a ++ l) (first_bits_cat 16 32 b (d * 65536 + c) small_b ∙ ap (λ l. first_bits 16 b ++ l) (first_bits_cat 16 16 c d small_c))

-- one byte more
pub byte_more : (message written : List Bool) (state carry byte placed next all : ℕ) → all ≡ carry + 1024 * placed → Carries message written 16 state carry → Places state (byte_bits byte) placed next
    → Carries (message ++ byte_bits byte) (written ++ first_bits 16 (all % 65536)) 16 next (all / 65536)
byte_more message written state carry byte placed next all sum so_far step =
    let few = waits_at_most_three next step.known in
    let eight = length-low_bits 8 byte in
    carries_more message written (byte_bits byte) 16 state carry placed next all sum (omega arith) (omega arith) so_far step

-- before the first byte
nothing_carried : Carries [] [] 16 0 0
nothing_carried = record {
  whole = [];
  kept = replicate 16 false;
  left = refl;
  right = refl;
  carried = refl;
  fills = refl;
  known = (omega arith, omega arith);
}

-- what the first byte writes are the sixteen 0s
pub first_carried : (bytes out : List ℕ) (bits state carry : ℕ) → 0 < length bytes
    → ((message written : List Bool) → Carries message written 16 0 0 → Carries (message ++ byte_bits (get_or bytes 0 0)) (written ++ first_bits 16 bits) 16 state carry)
    → Carries (flat_map byte_bits (take 1 bytes)) (replicate 16 false ++ word_bits (take 0 out)) 16 state carry
first_carried [] out bits state carry some goes_on = absurd (omega arith)
first_carried (byte ∷ bytes) out bits state carry some goes_on =
    let first = goes_on [] [] nothing_carried in
    let zeros : replicate 16 false ≡ first_bits 16 bits = ap (take 16) first.right ∙ take_at (first_bits 16 bits) first.kept 16 (length-first_bits 16 bits) in
    record {
      whole = first.whole;
      kept = first.kept;
      left = first.left ∙ sym (append-nil (byte_bits byte));
      right = first.right ∙ ap (λ l. l ++ first.kept) (sym zeros);
      carried = first.carried;
      fills = first.fills;
      known = first.known;
    }

-- one word more
pub word_carried : (bytes out four : List ℕ) (j at bits state carry next next_carry : ℕ) → at ≡ 4 * j + 1 → at + 4 ≤ length bytes → j < length out → four ≡ take 4 (drop at bytes)
    → ((message written : List Bool) → Carries message written 16 state carry → Carries (message ++ flat_map byte_bits four) (written ++ first_bits 64 bits) 16 next next_carry)
    → Carries (flat_map byte_bits (take at bytes)) (replicate 16 false ++ word_bits (take j out)) 16 state carry
    → Carries (flat_map byte_bits (take (4 * (j + 1) + 1) bytes)) (replicate 16 false ++ word_bits (take (j + 1) (set out j bits))) 16 next next_carry
word_carried bytes out four j at bits state carry next next_carry at_is inside room is goes_on so_far =
    let more = goes_on (flat_map byte_bits (take at bytes)) (replicate 16 false ++ word_bits (take j out)) so_far in
    let end : 4 * (j + 1) + 1 ≡ at + 4 = omega arith in
    let split : take (at + 4) bytes ≡ take at bytes ++ four =
    sym (take-append-drop at (take (at + 4) bytes))
    ∙ ap (λ l. l ++ drop at (take (at + 4) bytes)) (take-take at (at + 4) bytes (omega arith))
    ∙ ap (λ l. take at bytes ++ l) (drop-take at 4 bytes ∙ sym is) in
    let message : flat_map byte_bits (take at bytes) ++ flat_map byte_bits four ≡ flat_map byte_bits (take (4 * (j + 1) + 1) bytes) =
    sym (flat_map-append byte_bits (take at bytes) four) ∙ ap (flat_map byte_bits) (sym split ∙ ap (λ n. take n bytes) (sym end)) in
    let written : (replicate 16 false ++ word_bits (take j out)) ++ first_bits 64 bits ≡ replicate 16 false ++ word_bits (take (j + 1) (set out j bits)) =
    append_assoc (replicate 16 false) (word_bits (take j out)) (first_bits 64 bits)
    ∙ ap (λ l. replicate 16 false ++ l) (sym (word_bits_more out j bits room)) in
    record {
      whole = more.whole;
      kept = more.kept;
      left = more.left ∙ message;
      right = more.right ∙ ap (λ l. l ++ more.kept) written;
      carried = more.carried;
      fills = more.fills;
      known = more.known;
    }

-- four bytes one by one
four_of : (bytes : List ℕ) → length bytes ≡ 4 → bytes ≡ get_or bytes 0 0 ∷ get_or bytes 1 0 ∷ get_or bytes 2 0 ∷ get_or bytes 3 0 ∷ []
four_of (a ∷ b ∷ c ∷ d ∷ []) long = refl
four_of [] long = absurd (omega arith)
four_of (a ∷ []) long = absurd (omega arith)
four_of (a ∷ b ∷ []) long = absurd (omega arith)
four_of (a ∷ b ∷ c ∷ []) long = absurd (omega arith)
four_of (a ∷ b ∷ c ∷ d ∷ e ∷ more) long = absurd (omega arith)

three_of : (bytes : List ℕ) → length bytes ≡ 3 → bytes ≡ get_or bytes 0 0 ∷ get_or bytes 1 0 ∷ get_or bytes 2 0 ∷ []
three_of (a ∷ b ∷ c ∷ []) long = refl
three_of [] long = absurd (omega arith)
three_of (a ∷ []) long = absurd (omega arith)
three_of (a ∷ b ∷ []) long = absurd (omega arith)
three_of (a ∷ b ∷ c ∷ d ∷ more) long = absurd (omega arith)

-- the same bits carried and written, in other brackets
pub Carries-same : (message message' written written' : List Bool) (room state carry : ℕ) → message ≡ message' → written ≡ written' → Carries message written room state carry → Carries message' written' room state carry
Carries-same message message' written written' room state carry m w c = record {
  whole = c.whole;
  kept = c.kept;
  left = c.left ∙ m;
  right = c.right ∙ ap (λ l. l ++ c.kept) w;
  carried = c.carried;
  fills = c.fills;
  known = c.known;
}

-- lists put behind a list one by one
three_appended : (m a b c : List Bool) → ((m ++ a) ++ b) ++ c ≡ m ++ (a ++ (b ++ c))
three_appended m a b c = append_assoc (m ++ a) b c ∙ append_assoc m a (b ++ c)

pub four_appended : (m a b c d : List Bool) → (((m ++ a) ++ b) ++ c) ++ d ≡ m ++ (a ++ (b ++ (c ++ d)))
four_appended m a b c d = three_appended (m ++ a) b c d ∙ append_assoc m a (b ++ (c ++ d))

pub bits_of_four : (message : List Bool) (bytes : List ℕ) → length bytes ≡ 4
    → (((message ++ byte_bits (get_or bytes 0 0)) ++ byte_bits (get_or bytes 1 0)) ++ byte_bits (get_or bytes 2 0)) ++ byte_bits (get_or bytes 3 0) ≡ message ++ flat_map byte_bits bytes
bits_of_four message bytes long =
    let b : ℕ → List Bool = λ k. byte_bits (get_or bytes k 0) in
    four_appended message (b 0) (b 1) (b 2) (b 3)
    ∙ ap (λ l. message ++ (b 0 ++ (b 1 ++ (b 2 ++ l)))) (sym (append-nil (b 3)))
    ∙ ap (λ l. message ++ flat_map byte_bits l) (sym (four_of bytes long))

pub bits_of_three : (message : List Bool) (bytes : List ℕ) → length bytes ≡ 3
    → ((message ++ byte_bits (get_or bytes 0 0)) ++ byte_bits (get_or bytes 1 0)) ++ byte_bits (get_or bytes 2 0) ≡ message ++ flat_map byte_bits bytes
bits_of_three message bytes long =
    let b : ℕ → List Bool = λ k. byte_bits (get_or bytes k 0) in
    three_appended message (b 0) (b 1) (b 2)
    ∙ ap (λ l. message ++ (b 0 ++ (b 1 ++ l))) (sym (append-nil (b 2)))
    ∙ ap (λ l. message ++ flat_map byte_bits l) (sym (three_of bytes long))

-- the lowest bits of a number of six
six_bits : (kept : List Bool) → length kept ≡ 6 → first_bits 64 (mask_l kept) ≡ kept ++ replicate 58 false
unfolding first_bits
six_bits kept long =
    let small : mask_l kept < 64 = omega (arith, mask_l-lt kept, ap (λ n. 2 ^ n) long) in
    let e : 0 * 64 + mask_l kept ≡ mask_l kept = omega arith in
    ap (first_bits 64) (sym e)
    ∙ first_bits_cat 6 58 (mask_l kept) 0 small
    ∙ ap (λ l. l ++ replicate 58 false) (first_bits-mask_l 6 kept (omega arith) ∙ take_all 6 kept (omega arith))

-- all is written
pub code_held : (bytes out three : List ℕ) (last at bits rest state carry : ℕ) → at ≡ 4 * last + 1 → length out ≡ last + 2 → length bytes ≡ at + 3 → three ≡ drop at bytes
    → ((message written : List Bool) → Carries message written 16 state carry → Carries ((message ++ flat_map byte_bits three) ++ tail) (written ++ first_bits 64 bits) 6 0 rest)
    → Carries (flat_map byte_bits (take at bytes)) (replicate 16 false ++ word_bits (take last out)) 16 state carry
    → HoldCode bytes (set (set out last bits) (last + 1) rest)
code_held bytes out three last at bits rest state carry at_is room long is goes_on so_far =
    let end = goes_on (flat_map byte_bits (take at bytes)) (replicate 16 false ++ word_bits (take last out)) so_far in
    let channel = flat_map right_side end.whole in
    let words = set (set out last bits) (last + 1) rest in
    let message : flat_map byte_bits (take at bytes) ++ flat_map byte_bits three ≡ flat_map byte_bits bytes =
    sym (flat_map-append byte_bits (take at bytes) three) ∙ ap (λ l. flat_map byte_bits (take at bytes ++ l)) is ∙ ap (flat_map byte_bits) (take-append-drop at bytes) in
    let right : channel ≡ (word_bits (take last out) ++ first_bits 64 bits) ++ end.kept = ap (drop 16) end.right in
    let six : length end.kept ≡ 6 = omega (arith, end.fills) in
    let long_set : length (set out last bits) ≡ last + 2 = length-set out last bits ∙ room in
    let all : take (last + 1 + 1) words ≡ words = take_all (last + 1 + 1) words (omega (arith, length-set (set out last bits) (last + 1) rest)) in
    record {
      channel = channel;
      coded = record {
        split = end.whole;
        left = sym (append-nil (flat_map left_side end.whole)) ∙ end.left ∙ ap (λ l. l ++ tail) message;
        right = refl;
      };
      held =
          ap word_bits (sym all)
          ∙ word_bits_more (set out last bits) (last + 1) rest (omega arith)
          ∙ ap (λ l. l ++ first_bits 64 rest) (word_bits_more out last bits (omega arith))
          ∙ ap (λ l. (word_bits (take last out) ++ first_bits 64 bits) ++ l) (ap (first_bits 64) end.carried ∙ six_bits end.kept six)
          ∙ sym (append_assoc (word_bits (take last out) ++ first_bits 64 bits) end.kept (replicate 58 false))
          ∙ ap (λ l. l ++ replicate 58 false) (sym right);
    }
