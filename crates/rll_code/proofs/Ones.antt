-- The 1s of a code stand apart.
use Rattle.std.proofs.Common.{◌≡◌, ℕ, zero, suc, ◌+◌, ◌-◌, ◌<◌, ◌≤◌, Bool, true, false, List, [], ◌∷◌, ◌++◌, length, get_or, refl, sym, subst, ap, ◌∙◌, arith}
use Rattle.std.specs.List.{flat_map}
use Rattle.std.proofs.lemmas.List.{get_or_default}
use Rattle.std.proofs.lemmas.Bool.{false≢true}
use Rattle.rll_code.specs.Code.{Row, row_10, row_11, row_000, row_010, row_011, row_0010, row_0011, right_side, IsCode}
use Rattle.rll_code.specs.Laws.{HasOneAt, OnesAreFollowed, HasAllowedLevels}

-- the law, as a record, whose argument a use of it shows
record Followed (channel : List Bool) : Type 0 where
  each : OnesAreFollowed channel

shifted : (b : Bool) (channel : List Bool) (k n : ℕ) → get_or (b ∷ channel) (suc k + n) true ≡ get_or channel (k + n) true
shifted b channel k n = let e : suc k + n ≡ suc (k + n) = omega arith in ap (λ m. get_or (b ∷ channel) m true) e

nothing_followed : Followed []
nothing_followed = record { each = λ k one. absurd (false≢true one) }

-- one place more in front
behind : (b : Bool) (channel : List Bool) → OnesAreFollowed channel → (k : ℕ) → HasOneAt channel k → (suc k + 2 < length (b ∷ channel)) × (get_or (b ∷ channel) (suc k + 1) true ≡ false) × (get_or (b ∷ channel) (suc k + 2) true ≡ false)
behind b channel each k one =
    let h = each k one in
    (omega (arith, h.0), shifted b channel k 1 ∙ h.1, shifted b channel k 2 ∙ h.2)

in_zero : (channel : List Bool) → OnesAreFollowed channel → OnesAreFollowed (false ∷ channel)
in_zero channel each zero one = absurd (false≢true one)
in_zero channel each (suc k) one = behind false channel each k one

zero_followed : {channel : List Bool} → Followed channel → Followed (false ∷ channel)
zero_followed {channel} f = record { each = in_zero channel f.each }

in_one : (channel : List Bool) → OnesAreFollowed (false ∷ false ∷ channel) → OnesAreFollowed (true ∷ false ∷ false ∷ channel)
in_one channel each zero one = (omega arith, refl, refl)
in_one channel each (suc k) one = behind true (false ∷ false ∷ channel) each k one

one_followed : {channel : List Bool} → Followed channel → Followed (true ∷ false ∷ false ∷ channel)
one_followed {channel} f = record { each = in_one channel (in_zero (false ∷ channel) (in_zero channel f.each)) }

row_followed : (r : Row) (rest : List Bool) → Followed rest → Followed (right_side r ++ rest)
row_followed row_10 rest h = zero_followed (one_followed h)
row_followed row_11 rest h = one_followed (zero_followed h)
row_followed row_000 rest h = zero_followed (zero_followed (zero_followed (one_followed h)))
row_followed row_010 rest h = one_followed (one_followed h)
row_followed row_011 rest h = zero_followed (zero_followed (one_followed (zero_followed h)))
row_followed row_0010 rest h = zero_followed (zero_followed (one_followed (one_followed h)))
row_followed row_0011 rest h = zero_followed (zero_followed (zero_followed (zero_followed (one_followed (zero_followed h)))))

rows_followed : (rs : List Row) → Followed (flat_map right_side rs)
rows_followed [] = nothing_followed
rows_followed (r ∷ rs) = row_followed r (flat_map right_side rs) (rows_followed rs)

-- two 0s follow each 1 of a code
pub code_followed : (bytes : List ℕ) (channel : List Bool) → IsCode bytes channel → OnesAreFollowed channel
code_followed bytes channel code = subst OnesAreFollowed code.right ((rows_followed code.split).each)

-- a 1 and another at most two places on cannot both be
apart : (channel : List Bool) → OnesAreFollowed channel → (j k : ℕ) → j < k → k ≤ j + 2 → HasOneAt channel k → HasOneAt channel j → false ≡ true
apart channel followed j k after near one before =
    let h = followed j before in
    let zero_at : (n : ℕ) → n ≡ k → get_or channel n true ≡ false → n < length channel → false ≡ true =
    λ n e z within. sym z ∙ get_or_default channel n true false within ∙ ap (λ m. get_or channel m false) e ∙ one in
    by_place (k - j - 1) refl h zero_at
  where
    by_place : (d : ℕ) → k - j - 1 ≡ d → (j + 2 < length channel) × (get_or channel (j + 1) true ≡ false) × (get_or channel (j + 2) true ≡ false) → ((n : ℕ) → n ≡ k → get_or channel n true ≡ false → n < length channel → false ≡ true) → false ≡ true
    by_place zero e h zero_at = zero_at (j + 1) (omega arith) h.1 (omega (arith, h.0))
    by_place (suc d) e h zero_at = zero_at (j + 2) (omega arith) h.2 h.0

-- where two 0s follow each 1, no 1 stands in the two places before another
pub levels_allowed : (channel : List Bool) → OnesAreFollowed channel → HasAllowedLevels channel
levels_allowed channel followed j k after near one = by_value (get_or channel j false) refl
  where
    by_value : (b : Bool) → get_or channel j false ≡ b → get_or channel j false ≡ false
    by_value false e = e
    by_value true e = absurd (false≢true (apart channel followed j k after near one e))
