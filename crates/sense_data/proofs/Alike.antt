-- Lists whose items are all alike.
use Rattle.std.proofs.Common.{◌≡◌, ℕ, zero, suc, ◌<◌, List, [], ◌∷◌, length, replicate, get_or, refl, arith}

-- a list of n items that are all this one
pub replicate-alike : {X : Type 0} (y : X) (n : ℕ) (xs : List X)
    → length xs ≡ n → ((i : ℕ) (d : X) → i < n → get_or xs i d ≡ y) → xs ≡ replicate n y
replicate-alike y zero [] long same = refl
replicate-alike y zero (x ∷ xs) long same = absurd (omega arith)
replicate-alike y (suc n) [] long same = absurd (omega arith)
replicate-alike y (suc n) (x ∷ xs) long same =
    let first : x ≡ y = same 0 x (omega arith) in
    let rest : xs ≡ replicate n y = replicate-alike y n xs (omega arith) (λ i d lt. same (suc i) d (omega arith)) in
    cc
