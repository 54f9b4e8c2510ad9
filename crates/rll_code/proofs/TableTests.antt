-- A test of each entry of a table by state and eight bits, and what it says of one entry.
use Rattle.std.proofs.Common.{◌≡◌, ℕ, zero, suc, ◌+◌, ◌*◌, ◌/◌, ◌%◌, ◌<◌, Bool, true, false, ◌&&◌, List, [], ◌∷◌, length, get_or, refl, sym, subst, arith}
use Rattle.std.proofs.lemmas.Bool.{and_parts}
use Rattle.std.proofs.lemmas.Nat.{div-mul-add, mod-mul-add}
use lib.Pointwise.{pointwise, pointwise_decides}
use Rattle.rll_code.specs.Bits.{same}

same_is : (a b : Bool) → (same a b ≡ true → a ≡ b) × (a ≡ b → same a b ≡ true)
same_is true true = (λ _. refl, λ _. refl)
same_is true false = (λ h. sym h, λ h. sym h)
same_is false true = (λ h. h, λ h. h)
same_is false false = (λ _. refl, λ _. refl)

-- two lists of bits whose test is true are the same
pub same_bits : (xs ys : List Bool) → pointwise same xs ys ≡ true → xs ≡ ys
same_bits xs ys h = (pointwise_decides same_is xs ys).0 h

-- whether each entry passes the test, the first of them at place `at`
unfoldable pub all_from : {X : Type 0} → (ℕ → X → Bool) → ℕ → List X → Bool
all_from test at [] = true
all_from test at (x ∷ xs) = test at x && all_from test (suc at) xs

pub entry_passes : {X : Type 0} (test : ℕ → X → Bool) (at : ℕ) (xs : List X) → all_from test at xs ≡ true → (k : ℕ) (d : X) → k < length xs → test (at + k) (get_or xs k d) ≡ true
unfolding all_from
entry_passes test at [] h k d less = absurd (omega arith)
entry_passes test at (x ∷ xs) h zero d less =
    let e : at ≡ at + zero = omega arith in
    subst (λ n. test n x ≡ true) e (and_parts (test at x) (all_from test (suc at) xs) h).0
entry_passes test at (x ∷ xs) h (suc k) d less =
    let e : suc at + k ≡ at + suc k = omega arith in
    subst (λ n. test n (get_or xs k d) ≡ true) e
    (entry_passes test (suc at) xs (and_parts (test at x) (all_from test (suc at) xs) h).1 k d (omega arith))

-- a test of a state, eight bits and their entry, at the entry's place
abbrev pub by_place : {X : Type 0} → (ℕ → ℕ → X → Bool) → ℕ → X → Bool
by_place test at x = test (at / 256) (at % 256) x

-- where all entries pass, the one of a state and eight bits does
pub state_passes : {X : Type 0} (test : ℕ → ℕ → X → Bool) (xs : List X) → all_from (by_place test) 0 xs ≡ true → (state eight : ℕ) (d : X) → eight < 256 → state * 256 + eight < length xs → test state eight (get_or xs (state * 256 + eight) d) ≡ true
state_passes test xs pass state eight d fits within =
    let at = state * 256 + eight in
    let x = get_or xs at d in
    let zero_at : 0 + at ≡ at = omega arith in
    let passed = subst (λ n. by_place test n x ≡ true) zero_at (entry_passes (by_place test) 0 xs pass at d within) in
    let of_state : test state (at % 256) x ≡ true = subst (λ s. test s (at % 256) x ≡ true) (div-mul-add state 256 eight fits) passed in
    subst (λ b. test state b x ≡ true) (mod-mul-add state 256 eight fits) of_state
