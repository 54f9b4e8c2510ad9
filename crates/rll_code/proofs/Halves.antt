-- Tolerant reading uses two channel bits up for each bit that it gives.
use Rattle.std.proofs.Common.{◌≡◌, ℕ, zero, suc, ◌+◌, ◌-◌, ◌*◌, ◌≤◌, Bool, true, false, cond, List, [], ◌∷◌, map, length, take, find, Option, Some, None, MatchOption, refl, sym, ap, ◌∙◌, length-append, length-take, arith}
use Rattle.std.specs.List.{starts_with}
use Rattle.std.specs.Option.{option_map_or}
use Rattle.std.proofs.lemmas.List.{length-map}
use lib.Pointwise.{pointwise_long}
use Rattle.rll_code.specs.Bits.{same}
use Rattle.rll_code.specs.Code.{Row, rows, left_side, right_side}
use Rattle.rll_code.specs.Reading.{BitRead, sure, unread, row_at, front_bits, front_length, reading_after}
use Rattle.rll_code.specs.Laws.{IsHalfAsLong}
use Rattle.rll_code.proofs.Rows.{side_lengths, right_side_long}

-- what is found passes the test
abbrev Passes : {X : Type 0} → (X → Bool) → Option X → Type 0
Passes test found = MatchOption found (Unit {0}) (λ x. test x ≡ true)

first_passes : {X : Type 0} (test : X → Bool) (x : X) (others : Option X) (b : Bool) → test x ≡ b → Passes test others → Passes test (cond b (Some x) others)
first_passes test x others true e h = e
first_passes test x others false e h = h

find_passes : {X : Type 0} (test : X → Bool) (xs : List X) → Passes test (find test xs)
find_passes test [] = tt
find_passes test (x ∷ xs) = first_passes test x (find test xs) (test x) refl (find_passes test xs)

-- a right side that is there in full is no longer than what is there
within : (channel : List Bool) (r : Row) → starts_with same channel (right_side r) ≡ true → length (right_side r) ≤ length channel
within channel r h =
    omega (arith, pointwise_long same (right_side r) (take (length (right_side r)) channel) h, length-take (length (right_side r)) channel)

-- a front: what it gives, and how much it uses up
pub record Front (channel : List Bool) (given : List BitRead) (used : ℕ) : Type 0 where
  pub some : 2 ≤ used
  pub there : used ≤ length channel
  pub half : used ≡ 2 * length given

front : (channel : List Bool) → 2 ≤ length channel → Front channel (front_bits channel) (front_length channel)
front channel long = by_row (row_at channel) (find_passes (λ r. starts_with same channel (right_side r)) rows)
  where
    by_row : (found : Option Row) → Passes (λ r. starts_with same channel (right_side r)) found → Front channel (option_map_or (λ r. map sure (left_side r)) found (unread ∷ [])) (option_map_or (λ r. length (right_side r)) found 2)
    by_row None h = record { some = omega arith; there = long; half = refl }
    by_row (Some r) h = record {
      some = right_side_long r;
      there = within channel r h;
      half = side_lengths r ∙ ap (λ n. 2 * n) (sym (length-map (left_side r) sure));
    }

pub halves : (used n : ℕ) (channel : List Bool) → length channel ≡ used + 2 * n → length (reading_after used channel) ≡ n
unfolding reading_after
halves used n [] long = omega arith
halves (suc used) n (c ∷ rest) long = halves used n rest (omega arith)
halves zero n (c ∷ rest) long =
    let f = front (c ∷ rest) (omega arith) in
    let some = f.some in
    let there = f.there in
    let half = f.half in
    let given = front_bits (c ∷ rest) in
    let used = front_length (c ∷ rest) in
    length-append given (reading_after (used - 1) rest)
    ∙ ap (λ m. length given + m) (halves (used - 1) (n - length given) rest (omega arith))
    ∙ (let e : length given + (n - length given) ≡ n = omega arith in e)

pub reading_half : (channel : List Bool) → IsHalfAsLong channel
reading_half channel n long = halves 0 n channel (omega (arith, long))
