-- Channel bits settled pair by pair: the bits read for sure, and the beginning of a right side that still waits.
use Rattle.std.proofs.Common.{◌≡◌, ℕ, zero, suc, ◌<◌, Bool, true, false, List, [], ◌∷◌, ◌++◌, get_or, refl, sym, ap, ◌∙◌, append_assoc, arith, ◌/◌}
use Rattle.rll_code.specs.Reading.{BitRead, sure, unread, reading, reading_after}
use Rattle.rll_code.specs.Steps.{IsState, right_beginnings, channel_waiting}

-- the beginnings of right sides of an even length, named by their channel bits
pub data Waiting : Type 0 where
  nothing : Waiting
  w_00 : Waiting
  w_01 : Waiting
  w_10 : Waiting
  w_0000 : Waiting
  w_0001 : Waiting
  w_0010 : Waiting
  w_1001 : Waiting
  w_000010 : Waiting
  w_001001 : Waiting

abbrev pub waiting_bits : Waiting → List Bool
waiting_bits nothing = []
waiting_bits w_00 = false ∷ false ∷ []
waiting_bits w_01 = false ∷ true ∷ []
waiting_bits w_10 = true ∷ false ∷ []
waiting_bits w_0000 = false ∷ false ∷ false ∷ false ∷ []
waiting_bits w_0001 = false ∷ false ∷ false ∷ true ∷ []
waiting_bits w_0010 = false ∷ false ∷ true ∷ false ∷ []
waiting_bits w_1001 = true ∷ false ∷ false ∷ true ∷ []
waiting_bits w_000010 = false ∷ false ∷ false ∷ false ∷ true ∷ false ∷ []
waiting_bits w_001001 = false ∷ false ∷ true ∷ false ∷ false ∷ true ∷ []

-- the state of a beginning
abbrev pub state_of : Waiting → ℕ
state_of nothing = 0
state_of w_00 = 256
state_of w_01 = 512
state_of w_10 = 768
state_of w_0000 = 1024
state_of w_0001 = 1280
state_of w_0010 = 1536
state_of w_1001 = 1792
state_of w_000010 = 2048
state_of w_001001 = 2304

-- what waits in the state of each line of 256 entries
abbrev pub waiting_in : ℕ → Waiting
waiting_in line = get_or (nothing ∷ w_00 ∷ w_01 ∷ w_10 ∷ w_0000 ∷ w_0001 ∷ w_0010 ∷ w_1001 ∷ w_000010 ∷ w_001001 ∷ []) line nothing

pub waiting-state : (w : Waiting) → (channel_waiting (state_of w) ≡ waiting_bits w) × IsState 10 (state_of w)
waiting-state nothing = (refl, (omega arith, omega arith))
waiting-state w_00 = (refl, (omega arith, omega arith))
waiting-state w_01 = (refl, (omega arith, omega arith))
waiting-state w_10 = (refl, (omega arith, omega arith))
waiting-state w_0000 = (refl, (omega arith, omega arith))
waiting-state w_0001 = (refl, (omega arith, omega arith))
waiting-state w_0010 = (refl, (omega arith, omega arith))
waiting-state w_1001 = (refl, (omega arith, omega arith))
waiting-state w_000010 = (refl, (omega arith, omega arith))
waiting-state w_001001 = (refl, (omega arith, omega arith))

pub below_ten : (P : ℕ → Type 0) → P 0 → P 1 → P 2 → P 3 → P 4 → P 5 → P 6 → P 7 → P 8 → P 9 → (n : ℕ) → n < 10 → P n
below_ten P a b c d e f g h i j zero less = a
below_ten P a b c d e f g h i j (suc zero) less = b
below_ten P a b c d e f g h i j (suc (suc zero)) less = c
below_ten P a b c d e f g h i j (suc (suc (suc zero))) less = d
below_ten P a b c d e f g h i j (suc (suc (suc (suc zero)))) less = e
below_ten P a b c d e f g h i j (suc (suc (suc (suc (suc zero))))) less = f
below_ten P a b c d e f g h i j (suc (suc (suc (suc (suc (suc zero)))))) less = g
below_ten P a b c d e f g h i j (suc (suc (suc (suc (suc (suc (suc zero))))))) less = h
below_ten P a b c d e f g h i j (suc (suc (suc (suc (suc (suc (suc (suc zero)))))))) less = i
below_ten P a b c d e f g h i j (suc (suc (suc (suc (suc (suc (suc (suc (suc zero))))))))) less = j
below_ten P a b c d e f g h i j (suc (suc (suc (suc (suc (suc (suc (suc (suc (suc n)))))))))) less = absurd (omega arith)

pub waiting-known : (state : ℕ) → IsState 10 state → waiting_bits (waiting_in (state / 256)) ≡ channel_waiting state
waiting-known state known = below_ten (λ n. waiting_bits (waiting_in n) ≡ get_or right_beginnings n []) refl refl refl refl refl refl refl refl refl refl (state / 256) known.0

-- the bits read for sure, and what waits then
pub record Settled : Type 0 where
  pub given : List BitRead
  pub waits : Waiting

-- one more pair of channel bits
abbrev pub settle_pair : Waiting → Bool → Bool → Settled
settle_pair nothing false false = record { given = []; waits = w_00 }
settle_pair nothing false true = record { given = []; waits = w_01 }
settle_pair nothing true false = record { given = []; waits = w_10 }
settle_pair nothing true true = record { given = unread ∷ []; waits = nothing }
settle_pair w_00 false false = record { given = []; waits = w_0000 }
settle_pair w_00 false true = record { given = []; waits = w_0001 }
settle_pair w_00 true false = record { given = []; waits = w_0010 }
settle_pair w_00 true true = record { given = unread ∷ unread ∷ []; waits = nothing }
settle_pair w_01 false false = record { given = sure true ∷ sure false ∷ []; waits = nothing }
settle_pair w_01 false true = record { given = unread ∷ []; waits = w_01 }
settle_pair w_01 true false = record { given = unread ∷ []; waits = w_10 }
settle_pair w_01 true true = record { given = unread ∷ unread ∷ []; waits = nothing }
settle_pair w_10 false false = record { given = sure true ∷ sure true ∷ []; waits = nothing }
settle_pair w_10 false true = record { given = []; waits = w_1001 }
settle_pair w_10 true false = record { given = unread ∷ []; waits = w_10 }
settle_pair w_10 true true = record { given = unread ∷ unread ∷ []; waits = nothing }
settle_pair w_0000 false false = record { given = unread ∷ []; waits = w_0000 }
settle_pair w_0000 false true = record { given = unread ∷ []; waits = w_0001 }
settle_pair w_0000 true false = record { given = []; waits = w_000010 }
settle_pair w_0000 true true = record { given = unread ∷ unread ∷ unread ∷ []; waits = nothing }
settle_pair w_0001 false false = record { given = sure false ∷ sure false ∷ sure false ∷ []; waits = nothing }
settle_pair w_0001 false true = record { given = unread ∷ unread ∷ []; waits = w_01 }
settle_pair w_0001 true false = record { given = unread ∷ unread ∷ []; waits = w_10 }
settle_pair w_0001 true true = record { given = unread ∷ unread ∷ unread ∷ []; waits = nothing }
settle_pair w_0010 false false = record { given = sure false ∷ sure true ∷ sure true ∷ []; waits = nothing }
settle_pair w_0010 false true = record { given = []; waits = w_001001 }
settle_pair w_0010 true false = record { given = unread ∷ unread ∷ []; waits = w_10 }
settle_pair w_0010 true true = record { given = unread ∷ unread ∷ unread ∷ []; waits = nothing }
settle_pair w_1001 false false = record { given = sure false ∷ sure true ∷ sure false ∷ []; waits = nothing }
settle_pair w_1001 false true = record { given = unread ∷ unread ∷ []; waits = w_01 }
settle_pair w_1001 true false = record { given = unread ∷ unread ∷ []; waits = w_10 }
settle_pair w_1001 true true = record { given = unread ∷ unread ∷ unread ∷ []; waits = nothing }
settle_pair w_000010 false false = record { given = sure false ∷ sure false ∷ sure true ∷ sure true ∷ []; waits = nothing }
settle_pair w_000010 false true = record { given = unread ∷ []; waits = w_001001 }
settle_pair w_000010 true false = record { given = unread ∷ unread ∷ unread ∷ []; waits = w_10 }
settle_pair w_000010 true true = record { given = unread ∷ unread ∷ unread ∷ unread ∷ []; waits = nothing }
settle_pair w_001001 false false = record { given = sure false ∷ sure false ∷ sure true ∷ sure false ∷ []; waits = nothing }
settle_pair w_001001 false true = record { given = unread ∷ unread ∷ unread ∷ []; waits = w_01 }
settle_pair w_001001 true false = record { given = unread ∷ unread ∷ unread ∷ []; waits = w_10 }
settle_pair w_001001 true true = record { given = unread ∷ unread ∷ unread ∷ unread ∷ []; waits = nothing }

-- tolerant reading gives the same, whatever follows
pair_reads : (w : Waiting) (a b : Bool) (more : List Bool) → reading (waiting_bits w ++ a ∷ b ∷ more) ≡ (settle_pair w a b).given ++ reading (waiting_bits (settle_pair w a b).waits ++ more)
unfolding reading_after
pair_reads nothing false false more = refl
pair_reads nothing false true more = refl
pair_reads nothing true false more = refl
pair_reads nothing true true more = refl
pair_reads w_00 false false more = refl
pair_reads w_00 false true more = refl
pair_reads w_00 true false more = refl
pair_reads w_00 true true more = refl
pair_reads w_01 false false more = refl
pair_reads w_01 false true more = refl
pair_reads w_01 true false more = refl
pair_reads w_01 true true more = refl
pair_reads w_10 false false more = refl
pair_reads w_10 false true more = refl
pair_reads w_10 true false more = refl
pair_reads w_10 true true more = refl
pair_reads w_0000 false false more = refl
pair_reads w_0000 false true more = refl
pair_reads w_0000 true false more = refl
pair_reads w_0000 true true more = refl
pair_reads w_0001 false false more = refl
pair_reads w_0001 false true more = refl
pair_reads w_0001 true false more = refl
pair_reads w_0001 true true more = refl
pair_reads w_0010 false false more = refl
pair_reads w_0010 false true more = refl
pair_reads w_0010 true false more = refl
pair_reads w_0010 true true more = refl
pair_reads w_1001 false false more = refl
pair_reads w_1001 false true more = refl
pair_reads w_1001 true false more = refl
pair_reads w_1001 true true more = refl
pair_reads w_000010 false false more = refl
pair_reads w_000010 false true more = refl
pair_reads w_000010 true false more = refl
pair_reads w_000010 true true more = refl
pair_reads w_001001 false false more = refl
pair_reads w_001001 false true more = refl
pair_reads w_001001 true false more = refl
pair_reads w_001001 true true more = refl

-- one pair after another
abbrev pub settle_pairs : Waiting → List Bool → Settled
settle_pairs w (a ∷ b ∷ rest) =
    let first = settle_pair w a b in
    let others = settle_pairs first.waits rest in
    record { given = first.given ++ others.given; waits = others.waits }
settle_pairs w _ = record { given = []; waits = w }

abbrev pub ArePairs : List Bool → Type 0
ArePairs [] = Unit {0}
ArePairs (a ∷ []) = ⊥
ArePairs (a ∷ b ∷ rest) = ArePairs rest

pub pairs_read : (w : Waiting) (xs more : List Bool) → ArePairs xs → reading (waiting_bits w ++ (xs ++ more)) ≡ (settle_pairs w xs).given ++ reading (waiting_bits (settle_pairs w xs).waits ++ more)
pairs_read w [] more pairs = refl
pairs_read w (a ∷ []) more pairs = absurd pairs
pairs_read w (a ∷ b ∷ rest) more pairs =
    let first = settle_pair w a b in
    let others = settle_pairs first.waits rest in
    pair_reads w a b (rest ++ more)
    ∙ ap (λ l. first.given ++ l) (pairs_read first.waits rest more pairs)
    ∙ sym (append_assoc first.given others.given (reading (waiting_bits others.waits ++ more)))
