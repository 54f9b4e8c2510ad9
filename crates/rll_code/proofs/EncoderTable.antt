-- The encoder's tables give what splitting a byte gives, tried at each state and byte.
use Rattle.std.proofs.Common.{◌/◌, ◌≡◌, ℕ, zero, suc, ◌+◌, ◌*◌, ◌<◌, Bool, true, ◌&&◌, zip, nat_eq, List, [], ◌∷◌, ◌++◌, length, take, get_or, refl, sym, subst, ap, ◌∙◌, eqb-true, arith}
use Rattle.std.specs.List.{flat_map}
use Rattle.std.proofs.lemmas.Bool.{and_parts}
use Rattle.std.proofs.lemmas.Slice.Zip.{get_or-zip}
use Rattle.std.proofs.lemmas.List.{append-nil}
use lib.Pointwise.{pointwise}
use Rattle.rll_code.specs.Bits.{same, byte_bits, low_bits}
use Rattle.rll_code.specs.Code.{Row, left_side, right_side, tail}
use Rattle.rll_code.specs.Steps.{IsState, left_beginnings, bits_waiting, Advances, Finishes}
use Rattle.rll_code.specs.declared.tables.TheConstants.{WORDS, PENDING}
use Rattle.rll_code.proofs.Splitting.{Beginning, none, one_0, one_1, two_00, two_01, three_001, beginning_bits, Split, split_bits, bits_split, tail_completes}
use Rattle.rll_code.proofs.TableTests.{same_bits, all_from, by_place, state_passes}

-- the state of a beginning
abbrev pub state_of : Beginning → ℕ
state_of none = 0
state_of one_0 = 256
state_of one_1 = 512
state_of two_00 = 768
state_of two_01 = 1024
state_of three_001 = 1280

pub beginning-state : (b : Beginning) → (bits_waiting (state_of b) ≡ beginning_bits b) × IsState 6 (state_of b)
beginning-state none = (refl, (omega arith, omega arith))
beginning-state one_0 = (refl, (omega arith, omega arith))
beginning-state one_1 = (refl, (omega arith, omega arith))
beginning-state two_00 = (refl, (omega arith, omega arith))
beginning-state two_01 = (refl, (omega arith, omega arith))
beginning-state three_001 = (refl, (omega arith, omega arith))

abbrev pub beginning_in : ℕ → Beginning
beginning_in line = get_or (none ∷ one_0 ∷ one_1 ∷ two_00 ∷ two_01 ∷ three_001 ∷ []) line none

pub below_six : (P : ℕ → Type 0) → P 0 → P 1 → P 2 → P 3 → P 4 → P 5 → (n : ℕ) → n < 6 → P n
below_six P a b c d e f zero less = a
below_six P a b c d e f (suc zero) less = b
below_six P a b c d e f (suc (suc zero)) less = c
below_six P a b c d e f (suc (suc (suc zero))) less = d
below_six P a b c d e f (suc (suc (suc (suc zero)))) less = e
below_six P a b c d e f (suc (suc (suc (suc (suc zero))))) less = f
below_six P a b c d e f (suc (suc (suc (suc (suc (suc n)))))) less = absurd (omega arith)

pub bits-beginning : (state : ℕ) → IsState 6 state → beginning_bits (beginning_in (state / 256)) ≡ bits_waiting state
bits-beginning state known = below_six (λ n. beginning_bits (beginning_in n) ≡ get_or left_beginnings n []) refl refl refl refl refl refl (state / 256) known.0

abbrev pub byte_split : ℕ → ℕ → Split
byte_split line byte = split_bits (beginning_in line) (byte_bits byte)

-- a test of a line, whole rows and their entry
abbrev pub RowTest : Type 0
RowTest = ℕ → List Row → ℕ → Bool

-- whether an entry passes a test of the rows that splitting the byte gives, and the next state is what it gives
abbrev pub passes : RowTest → ℕ → ℕ → ℕ × ℕ → Bool
passes test line byte x = test line (byte_split line byte).whole x.0 && nat_eq x.1 (state_of (byte_split line byte).waits)

-- the bits that wait and a byte are whole rows, of which the entry passes the test, and the bits that wait next
pub record Splits (test : RowTest) (state byte entry next : ℕ) : Type 0 where
  pub whole : List Row
  pub left : flat_map left_side whole ++ bits_waiting next ≡ bits_waiting state ++ byte_bits byte
  pub passed : test (state / 256) whole entry ≡ true
  pub known : IsState 6 next

passed_splits : (test : RowTest) (state byte entry next : ℕ) → IsState 6 state → passes test (state / 256) byte (entry, next) ≡ true → Splits test state byte entry next
passed_splits test state byte entry next known passed =
    let s = byte_split (state / 256) byte in
    let parts = and_parts (test (state / 256) s.whole entry) (nat_eq next (state_of s.waits)) passed in
    let e : next ≡ state_of s.waits = eqb-true next (state_of s.waits) parts.1 in
    record {
      whole = s.whole;
      left =
          ap (λ l. flat_map left_side s.whole ++ l) (ap bits_waiting e ∙ (beginning-state s.waits).0)
          ∙ bits_split (beginning_in (state / 256)) (byte_bits byte)
          ∙ ap (λ l. l ++ byte_bits byte) (bits-beginning state known);
      passed = parts.0;
      known = subst (IsState 6) (sym e) (beginning-state s.waits).1;
    }

-- where all entries of two tables pass, those of a state and a byte do
pub splits : (test : RowTest) (entries nexts : List ℕ) → length entries ≡ 1536 → length nexts ≡ 1536 → length (zip entries nexts) ≡ 1536 → all_from (by_place (passes test)) 0 (zip entries nexts) ≡ true → (state byte : ℕ) → IsState 6 state → byte < 256 → Splits test state byte (get_or entries (state + byte) 0) (get_or nexts (state + byte) 0)
splits test entries nexts long_entries long_nexts long pass state byte known fits =
    let at = state + byte in
    let begins_at : state / 256 * 256 + byte ≡ at = omega (arith, known.1) in
    let inside = known.0 in
    let entry = get_or-zip entries nexts at (0, 0) (omega arith) (omega arith) in
    passed_splits test state byte (get_or entries at 0) (get_or nexts at 0) known
    (subst (λ x. passes test (state / 256) byte x ≡ true) entry
    (subst (λ n. passes test (state / 256) byte (get_or (zip entries nexts) n (0, 0)) ≡ true) begins_at
    (state_passes (passes test) (zip entries nexts) pass (state / 256) byte (0, 0) fits (omega arith))))

-- whether the word begins with the rows' channel bits
abbrev begins : ℕ → List Row → Bool
begins word split = pointwise same (take (length (flat_map right_side split)) (low_bits 24 word)) (flat_map right_side split)

abbrev begins_word : RowTest
begins_word line whole word = begins word whole

tables_pass : all_from (by_place (passes begins_word)) 0 (zip WORDS PENDING) ≡ true
unfolding all_from low_bits
tables_pass = refl

-- what the tables hold for a state and a byte
pub tables_advance : (state byte : ℕ) → IsState 6 state → byte < 256 → Advances state byte (get_or WORDS (state + byte) 0) (get_or PENDING (state + byte) 0)
tables_advance state byte known fits =
    let s = splits begins_word WORDS PENDING refl refl refl tables_pass state byte known fits in
    record { whole = s.whole; left = s.left; right = same_bits _ _ s.passed; known = s.known }

-- whether the entry of a line and a byte that begins with the tail begins with the rows that the tail completes
abbrev tail_passes : ℕ → Type 0
tail_passes line = begins (get_or WORDS (line * 256 + 96) 0) (split_bits (beginning_in line) tail).whole ≡ true

tails_pass : (line : ℕ) → line < 6 → tail_passes line
unfolding low_bits
tails_pass = below_six tail_passes refl refl refl refl refl refl

-- what the table holds for a state and the tail
pub table_finishes : (state : ℕ) → IsState 6 state → Finishes state (get_or WORDS (state + 96) 0)
table_finishes state known =
    let b = beginning_in (state / 256) in
    let s = split_bits b tail in
    let begins_at : state / 256 * 256 + 96 ≡ state + 96 = omega (arith, known.1) in
    record {
      whole = s.whole;
      left =
          sym (append-nil (flat_map left_side s.whole))
          ∙ ap (λ w. flat_map left_side s.whole ++ beginning_bits w) (sym (tail_completes b))
          ∙ bits_split b tail
          ∙ ap (λ l. l ++ tail) (bits-beginning state known);
      right = same_bits _ _ (subst (λ n. begins (get_or WORDS n 0) s.whole ≡ true) begins_at (tails_pass (state / 256) known.0));
    }
