-- The definitions at values that can be worked out by hand.
use Rattle.std.proofs.Common.{◌≡◌, ℕ, [], ◌∷◌, ◌++◌, true, false, eqb, replicate, refl, sym, ◌∙◌, arith}
use Rattle.rs_sector.specs.Field.{polynomial_product, polynomial_remainder, field_product, power, sum_below}
use Rattle.rs_sector.specs.Code.{value_at, count_below, differs_at, IsCodeword}
use Rattle.rs_sector.specs.Decoding.{marked, differing_outside}
use Rattle.rs_sector.specs.Locating.{polynomial_at}
use Rattle.rs_sector.specs.Sector.{word_of, words_of, bytes_of}

-- (x + 1) times (x^2 + x + 1) is x^3 + 1
plain_product : polynomial_product 8 3 7 ≡ 9
unfolding polynomial_product
plain_product = refl

-- x^7 times x is x^8, of which x^4 + x^3 + x^2 + 1 remains
product_wraps : field_product 128 2 ≡ 29
unfolding field_product polynomial_product polynomial_remainder
product_wraps = refl

-- the generator passes 1 for the first time at its power 255
generator_order : power 2 255 ≡ 1
unfolding power field_product polynomial_product polynomial_remainder
generator_order = refl

generator_not_sooner : eqb (power 2 85) 1 ≡ false
unfolding power field_product polynomial_product polynomial_remainder
generator_not_sooner = refl

-- x^2 + 3 at 2 is 4 + 3
value_of_a_polynomial : value_at 2 (1 ∷ 0 ∷ 3 ∷ []) ≡ 7
unfolding value_at sum_below power field_product polynomial_product polynomial_remainder
value_of_a_polynomial = refl

-- the other order of the bytes has another value
value_needs_the_order : eqb (value_at 2 (3 ∷ 0 ∷ 1 ∷ [])) 7 ≡ false
unfolding value_at sum_below power field_product polynomial_product polynomial_remainder
value_needs_the_order = refl

two_differences : count_below (differs_at (1 ∷ 2 ∷ 3 ∷ []) (1 ∷ 3 ∷ 4 ∷ [])) 3 ≡ 2
unfolding count_below
two_differences = refl

four_words_of_two : words_of 2 (0 ∷ 1 ∷ 2 ∷ 3 ∷ 4 ∷ 5 ∷ 6 ∷ 7 ∷ []) ≡ (0 ∷ 4 ∷ []) ∷ (1 ∷ 5 ∷ []) ∷ (2 ∷ 6 ∷ []) ∷ (3 ∷ 7 ∷ []) ∷ []
unfolding words_of word_of
four_words_of_two = refl

eight_bytes_of_them : bytes_of 2 ((0 ∷ 4 ∷ []) ∷ (1 ∷ 5 ∷ []) ∷ (2 ∷ 6 ∷ []) ∷ (3 ∷ 7 ∷ []) ∷ []) ≡ 0 ∷ 1 ∷ 2 ∷ 3 ∷ 4 ∷ 5 ∷ 6 ∷ 7 ∷ []
unfolding bytes_of
eight_bytes_of_them = refl

one_byte_at_one : value_at (power 2 0) (replicate 147 0 ++ 1 ∷ []) ≡ 1
unfolding value_at sum_below power field_product polynomial_product polynomial_remainder
one_byte_at_one = refl

-- the zero word with a one at its last place is not 0 at 1, and so no codeword
one_byte_is_no_codeword : IsCodeword (replicate 147 0 ++ 1 ∷ []) → ⊥
one_byte_is_no_codeword code = let bad : ◌≡◌ {A = ℕ} 1 0 = sym one_byte_at_one ∙ code.zeros 0 (omega arith) in absurd (omega arith)

two_marks : marked (true ∷ false ∷ true ∷ []) ≡ 2
unfolding marked count_below
two_marks = refl

-- three places differ, of which the first is erased
two_outside : differing_outside (true ∷ []) (1 ∷ 2 ∷ 3 ∷ 4 ∷ []) (5 ∷ 2 ∷ 7 ∷ 8 ∷ []) ≡ 2
unfolding differing_outside count_below
two_outside = refl

-- 1 + x has the root 1
root_of_a_polynomial : polynomial_at (1 ∷ 1 ∷ []) 1 ≡ 0
unfolding polynomial_at sum_below power field_product polynomial_product polynomial_remainder
root_of_a_polynomial = refl

no_other_root : eqb (polynomial_at (1 ∷ 1 ∷ []) 2) 0 ≡ false
unfolding polynomial_at sum_below power field_product polynomial_product polynomial_remainder
no_other_root = refl
