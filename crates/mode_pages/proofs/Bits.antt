-- Flags in a byte and back, and pages that don't differ.
use Rattle.std.proofs.Common.{◌≡◌, ℕ, Bool, true, false, ◌==◌, ◌&&◌, List, [], ◌∷◌, refl, ap, ◌∙◌}
use Rattle.std.specs.Int.Bits.{bit_or, bit_xor, or_zero_r, xor_self}
use Rattle.std.proofs.lemmas.Bool.{eq-eqb}
use Rattle.mode_pages.specs.Pages.{flag, is_set}
use Rattle.mode_pages.specs.ModeSelect.{differ_only_in}

-- a page differs nowhere from itself
pub differ_only_in-same : (mask xs : List ℕ) → differ_only_in mask xs xs ≡ true
differ_only_in-same [] xs = refl
differ_only_in-same (m ∷ mask) [] = refl
differ_only_in-same (m ∷ mask) (x ∷ xs) =
    let none : bit_or m (bit_xor x x) ≡ m = rw (xor_self x, or_zero_r m) in
    let here : (bit_or m (bit_xor x x) == m) ≡ true = eq-eqb _ _ none in
    ap (λ b. b && differ_only_in mask xs xs) here ∙ differ_only_in-same mask xs

-- each flag of byte 2 of the Read-Write Error Recovery mode page
pub error_recovery_flags : (a b c : Bool)
    → (is_set (bit_or (bit_or (flag a 0x80) (flag b 0x40)) (flag c 0x04)) 0x80 ≡ a)
    × (is_set (bit_or (bit_or (flag a 0x80) (flag b 0x40)) (flag c 0x04)) 0x40 ≡ b)
    × (is_set (bit_or (bit_or (flag a 0x80) (flag b 0x40)) (flag c 0x04)) 0x04 ≡ c)
error_recovery_flags true true true = (refl, refl, refl)
error_recovery_flags true true false = (refl, refl, refl)
error_recovery_flags true false true = (refl, refl, refl)
error_recovery_flags true false false = (refl, refl, refl)
error_recovery_flags false true true = (refl, refl, refl)
error_recovery_flags false true false = (refl, refl, refl)
error_recovery_flags false false true = (refl, refl, refl)
error_recovery_flags false false false = (refl, refl, refl)

-- each flag of byte 2 of the Caching mode page
pub caching_flags : (a b : Bool)
    → (is_set (bit_or (flag a 0x04) (flag b 0x01)) 0x04 ≡ a)
    × (is_set (bit_or (flag a 0x04) (flag b 0x01)) 0x01 ≡ b)
caching_flags true true = (refl, refl)
caching_flags true false = (refl, refl)
caching_flags false true = (refl, refl)
caching_flags false false = (refl, refl)

-- the flag of byte 4 of the Background Control mode page
pub background_flag : (a : Bool) → is_set (flag a 0x01) 0x01 ≡ a
background_flag true = refl
background_flag false = refl
