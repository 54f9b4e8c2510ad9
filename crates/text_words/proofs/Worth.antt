-- What decimal digits are worth.
use Rattle.std.proofs.Common.{◌≡◌, ℕ, suc, ◌<◌, ◌≤◌, List, [], ◌∷◌, length, drop, get_or, drop-cons, arith}
use Rattle.std.specs.Prelude.{fold}
use Rattle.text_words.specs.Number.{with_digit, worth}

-- more digits are worth no less
pub grows : (n : ℕ) (digits : List ℕ) → n ≤ fold with_digit n digits
grows n [] = omega arith
grows n (digit ∷ digits) = let later : with_digit n digit ≤ fold with_digit (with_digit n digit) digits = grows (with_digit n digit) digits in omega arith

-- digits of which the first are worth too much are worth too much
pub too_great : (digits : List ℕ) (n i most : ℕ) → i < length digits → fold with_digit n (drop i digits) ≡ worth digits → most < with_digit n (get_or digits i 0) → most < worth digits
too_great digits n i most lt whole great =
    let cut : drop i digits ≡ get_or digits i 0 ∷ drop (suc i) digits = drop-cons digits i 0 lt in
    let split : fold with_digit (with_digit n (get_or digits i 0)) (drop (suc i) digits) ≡ worth digits = rw cut at whole in
    let more : with_digit n (get_or digits i 0) ≤ fold with_digit (with_digit n (get_or digits i 0)) (drop (suc i) digits) = grows _ (drop (suc i) digits) in
    omega (arith, split)
