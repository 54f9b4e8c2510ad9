-- The newest operation that passes a test.
use Rattle.std.proofs.Common.{◌≡◌, ℕ, zero, suc, ◌≤◌, Bool, true, false, List, [], ◌∷◌, ◌++◌, length, Some, refl, arith, rules}
use Rattle.std.specs.Prelude.{if◌then◌else◌}
use Rattle.platter_model.specs.declared.op.Op.{Op}
use Rattle.platter_model.specs.Places.{newest, passes_at, is_since, reach}
use Rattle.platter_model.proofs.Lists.{slice_get-left, slice_get-last}

-- an operation that comes later changes nothing for those before
pub newest-left : (test : Op → Bool) (ops more : List Op) (n : ℕ) → n ≤ length ops → newest test (ops ++ more) n ≡ newest test ops n
newest-left test ops more zero within = refl
newest-left test ops more (suc n) within =
    rw (slice_get-left ops more n (omega arith), newest-left test ops more n (omega arith)) refl

-- the operation that comes last is the newest where it passes
pub newest-last : (test : Op → Bool) (ops : List Op) (op : Op) → newest test (ops ++ op ∷ []) (suc (length ops)) ≡ (if test op then Some (length ops) else newest test ops (length ops))
newest-last test ops op = rw (slice_get-last ops op, newest-left test ops (op ∷ []) (length ops) (omega arith)) refl

-- the newest of the first n stands below n
pub reach-newest-le : (test : Op → Bool) (ops : List Op) (n : ℕ) → reach (newest test ops n) ≤ n
reach-newest-le test ops zero = omega arith
reach-newest-le test ops (suc n) =
    let P : Bool → Type 0 = λ b. reach (if b then Some n else newest test ops n) ≤ suc n in
    elim (passes_at test ops n) as P [ true ↦ omega arith | false ↦ omega (arith, reach-newest-le test ops n) ]

-- it is the newest of those that reach to it
newest_reach_step : (test : Op → Bool) (ops : List Op) (n : ℕ) (b : Bool) → passes_at test ops n ≡ b → newest test ops (reach (newest test ops n)) ≡ newest test ops n
    → newest test ops (reach (if b then Some n else newest test ops n)) ≡ (if b then Some n else newest test ops n)
newest_reach_step test ops n true is before = rw is refl
newest_reach_step test ops n false is before = before

pub newest-reach : (test : Op → Bool) (ops : List Op) (n : ℕ) → newest test ops (reach (newest test ops n)) ≡ newest test ops n
newest-reach test ops zero = refl
newest-reach test ops (suc n) = newest_reach_step test ops n (passes_at test ops n) refl (newest-reach test ops n)

-- a place is since the newest before it
pub is_since-newest : (test : Op → Bool) (ops : List Op) (n m : ℕ) → n ≤ m → is_since (newest test ops n) m ≡ true
is_since-newest test ops zero m within = refl
is_since-newest test ops (suc n) m within =
    let P : Bool → Type 0 = λ b. is_since (if b then Some n else newest test ops n) m ≡ true in
    let later : n ≤ m = omega arith in
    elim (passes_at test ops n) as P [ true ↦ search rules | false ↦ is_since-newest test ops n m later ]
