-- The rows of the tables of products, checked by computation.
use Rattle.std.proofs.Common.{◌≡◌, ◌≢◌, ℕ, zero, suc, ◌+◌, ◌<◌, Bool, true, false, ◌&&◌, T, eqb, List, [], ◌∷◌, length, get_or, refl, ap, ap₂, ◌∙◌, arith, eqb→eq}
use lib.Ieee.Fits.{and_l, and_r}
use Rattle.rs_sector.specs.Field.{polynomial_product, polynomial_remainder, field_product, multiples}
use Rattle.rs_sector.specs.declared.tables.TheConstants.{INVERSES}
use Rattle.rs_sector.specs.declared.tables.low.TheConstants.{LOW_PRODUCTS}
use Rattle.rs_sector.specs.declared.tables.high.TheConstants.{HIGH_PRODUCTS}
use Rattle.rs_sector.proofs.Powers.{inverts, inverse_from}

-- two lists of numbers are the same
abbrev pub same_numbers : List ℕ → List ℕ → Bool
same_numbers [] [] = true
same_numbers [] (y ∷ ys) = false
same_numbers (x ∷ xs) [] = false
same_numbers (x ∷ xs) (y ∷ ys) = eqb x y && same_numbers xs ys

pub same_from_numbers : (xs ys : List ℕ) → T (same_numbers xs ys) → xs ≡ ys
same_from_numbers [] [] h = refl
same_from_numbers [] (y ∷ ys) h = absurd h
same_from_numbers (x ∷ xs) [] h = absurd h
same_from_numbers (x ∷ xs) (y ∷ ys) h = ap₂ (λ z zs. z ∷ zs) (eqb→eq x y (and_l _ _ h)) (same_from_numbers xs ys (and_r (eqb x y) _ h))

-- row k of the rows is the list of f (from + k)
abbrev pub rows_are : (ℕ → List ℕ) → ℕ → List (List ℕ) → Bool
rows_are f from [] = true
rows_are f from (row ∷ rows) = same_numbers row (f from) && rows_are f (suc from) rows

pub row_from : (f : ℕ → List ℕ) (from : ℕ) (rows : List (List ℕ)) → T (rows_are f from rows) → (k : ℕ) → k < length rows → get_or rows k [] ≡ f (from + k)
row_from f from [] h k l = absurd (omega arith)
row_from f from (row ∷ rows) h zero l = same_from_numbers row (f from) (and_l _ _ h) ∙ ap f (let e : from ≡ from + 0 = omega arith in e)
row_from f from (row ∷ rows) h (suc k) l =
    row_from f (suc from) rows (and_r (same_numbers row (f from)) _ h) k (omega arith) ∙ ap f (let e : suc from + k ≡ from + suc k = omega arith in e)

low_holds : T (rows_are (λ a. multiples a 1) 0 LOW_PRODUCTS)
unfolding multiples field_product polynomial_product polynomial_remainder
low_holds = tt

high_holds : T (rows_are (λ a. multiples a 16) 0 HIGH_PRODUCTS)
unfolding multiples field_product polynomial_product polynomial_remainder
high_holds = tt

inverses_hold : T (inverts INVERSES)
unfolding multiples field_product polynomial_product polynomial_remainder
inverses_hold = tt

pub low_row : (a : ℕ) → a < 256 → get_or LOW_PRODUCTS a [] ≡ multiples a 1
low_row a l = row_from (λ a. multiples a 1) 0 LOW_PRODUCTS low_holds a l ∙ ap (λ x. multiples x 1) (let e : 0 + a ≡ a = omega arith in e)

pub high_row : (a : ℕ) → a < 256 → get_or HIGH_PRODUCTS a [] ≡ multiples a 16
high_row a l = row_from (λ a. multiples a 16) 0 HIGH_PRODUCTS high_holds a l ∙ ap (λ x. multiples x 16) (let e : 0 + a ≡ a = omega arith in e)

pub inverse_row : (a : ℕ) → a < 256 → a ≢ 0 → field_product a (get_or INVERSES a 0) ≡ 1
inverse_row = inverse_from INVERSES inverses_hold

-- what is not 0 has an inverse
pub has_inverse : (a : ℕ) → a < 256 → a ≢ 0 → (b : ℕ) × (field_product a b ≡ 1)
has_inverse a l ne = (get_or INVERSES a 0, inverse_row a l ne)
