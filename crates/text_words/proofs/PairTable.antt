-- The table of the digits of each byte, checked by computation.
use Rattle.std.proofs.Common.{◌≡◌, ℕ, zero, suc, ◌+◌, ◌<◌, Bool, true, false, ◌&&◌, T, eqb, List, [], ◌∷◌, length, get_or, refl, ap, ap₂, ◌∙◌, arith, eqb→eq}
use lib.Ieee.Fits.{and_l, and_r}
use Rattle.hex.specs.Hex.{encode_with}
use Rattle.text_words.specs.Digits.{byte_word}
use Rattle.text_words.specs.declared.digits.TheConstants.{PAIRS}

abbrev same_digits : List ℕ → List ℕ → Bool
same_digits [] [] = true
same_digits [] (y ∷ ys) = false
same_digits (x ∷ xs) [] = false
same_digits (x ∷ xs) (y ∷ ys) = eqb x y && same_digits xs ys

same_from_digits : (xs ys : List ℕ) → T (same_digits xs ys) → xs ≡ ys
same_from_digits [] [] h = refl
same_from_digits [] (y ∷ ys) h = absurd h
same_from_digits (x ∷ xs) [] h = absurd h
same_from_digits (x ∷ xs) (y ∷ ys) h = ap₂ (λ z zs. z ∷ zs) (eqb→eq x y (and_l _ _ h)) (same_from_digits xs ys (and_r (eqb x y) _ h))

-- the digits of the bytes from one on
abbrev pairs_are : ℕ → List (List ℕ) → Bool
pairs_are from [] = true
pairs_are from (pair ∷ pairs) = same_digits pair (byte_word from) && pairs_are (suc from) pairs

pair_from : (from : ℕ) (pairs : List (List ℕ)) → T (pairs_are from pairs) → (k : ℕ) → k < length pairs → get_or pairs k [] ≡ byte_word (from + k)
pair_from from [] h k l = absurd (omega arith)
pair_from from (pair ∷ pairs) h zero l = same_from_digits pair (byte_word from) (and_l _ _ h) ∙ ap byte_word (let e : from ≡ from + 0 = omega arith in e)
pair_from from (pair ∷ pairs) h (suc k) l =
    pair_from (suc from) pairs (and_r (same_digits pair (byte_word from)) _ h) k (omega arith) ∙ ap byte_word (let e : suc from + k ≡ from + suc k = omega arith in e)

pairs_hold : T (pairs_are 0 PAIRS)
unfolding encode_with
pairs_hold = tt

pub byte_pair : (byte : ℕ) → byte < 256 → get_or PAIRS byte [] ≡ byte_word byte
byte_pair byte less = pair_from 0 PAIRS pairs_hold byte less ∙ ap byte_word (let e : 0 + byte ≡ byte = omega arith in e)
