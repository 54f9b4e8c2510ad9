-- When two numbers are one.
use Rattle.std.proofs.Common.{◌≡◌, ℕ, Bool, true, false, arith}
use Rattle.std.specs.Prelude.{◌==◌}
use Rattle.std.proofs.lemmas.Bool.Decides.{nat_tests}

pub equal : (x b : ℕ) → (x == b) ≡ true → x ≡ b
equal x b e = grind (arith, nat_tests)

pub turned : (x b : ℕ) (t : Bool) → (x == b) ≡ t → (b == x) ≡ t
turned x b true e = grind (arith, nat_tests)
turned x b false e = grind (arith, nat_tests)

-- equal to one of two that differ
pub apart : (a b x : ℕ) → (a == b) ≡ true → (x == b) ≡ false → (a == x) ≡ false
apart a b x e f = grind (arith, nat_tests)

pub other : (a b x : ℕ) → (a == b) ≡ false → (a == x) ≡ true → (x == b) ≡ false
other a b x e f = grind (arith, nat_tests)
