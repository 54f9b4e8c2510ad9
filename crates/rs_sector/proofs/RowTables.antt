-- The rows of points and of checks, checked by computation.
use Rattle.std.proofs.Common.{◌≡◌, ℕ, zero, suc, ◌+◌, ◌-◌, ◌/◌, ◌%◌, ◌<◌, Bool, true, cond, ◌&&◌, T, eqb, List, [], ◌∷◌, length, get_or, sym, ap, ap₂, ◌∙◌, arith, eqb→eq}
use lib.Ieee.Fits.{and_l, and_r}
use Rattle.rs_sector.specs.Field.{polynomial_product, polynomial_remainder, field_product, power, sum_below}
use Rattle.rs_sector.specs.Lanes.{entry, HoldPowers, HoldChecks, HoldBlocks}
use Rattle.rs_sector.specs.declared.tables.rows.TheConstants.{POINT_POWERS, CHECKS, BLOCK_POWERS}
use Rattle.rs_sector.proofs.FieldLaws.{all_below, every_below}
use Rattle.rs_sector.proofs.Powers.{power-zero, power-suc}
use Rattle.rs_sector.proofs.Sums.{sum_same}

-- ---- a row of powers

-- the numbers are p, x times p, and so on
abbrev pub powers_follow : ℕ → ℕ → List ℕ → Bool
powers_follow x p [] = true
powers_follow x p (e ∷ es) = eqb e p && powers_follow x (field_product x p) es

followed : (x from p : ℕ) (es : List ℕ) → p ≡ power x from → T (powers_follow x p es) → (j : ℕ) → j < length es → get_or es j 0 ≡ power x (from + j)
followed x from p [] e h j l = absurd (omega arith)
followed x from p (y ∷ ys) e h zero l = eqb→eq y p (and_l _ _ h) ∙ e ∙ ap (power x) (let f : from ≡ from + 0 = omega arith in f)
followed x from p (y ∷ ys) e h (suc j) l =
    followed x (suc from) (field_product x p) ys (ap (field_product x) e ∙ sym (power-suc x from)) (and_r (eqb y p) _ h) j (omega arith)
    ∙ ap (power x) (let f : suc from + j ≡ from + suc j = omega arith in f)

-- the point before that of the first row
abbrev pub point_before : List (List ℕ) → ℕ
point_before [] = 1
point_before (row ∷ rows) = field_product 2 (get_or row 1 0)

-- each row has 16 powers of its point, which is twice that of the next row, and 1 in the last
abbrev pub rows_descend : List (List ℕ) → Bool
rows_descend [] = true
rows_descend (row ∷ rows) = (eqb (get_or row 1 0) (point_before rows) && (eqb (length row) 16 && powers_follow (get_or row 1 0) 1 row)) && rows_descend rows

point_of : (rows : List (List ℕ)) → T (rows_descend rows) → point_before rows ≡ power 2 (length rows)
point_of [] h = sym (power-zero 2)
point_of (row ∷ rows) h =
    ap (field_product 2) (eqb→eq _ _ (and_l _ _ (and_l _ _ h)) ∙ point_of rows (and_r (eqb (get_or row 1 0) (point_before rows) && (eqb (length row) 16 && powers_follow (get_or row 1 0) 1 row)) _ h))
    ∙ sym (power-suc 2 (length rows))

row_of : (rows : List (List ℕ)) → T (rows_descend rows) → (k j : ℕ) → k < length rows → j < 16 → get_or (get_or rows k []) j 0 ≡ power (power 2 (length rows - 1 - k)) j
row_of [] h k j l m = absurd (omega arith)
row_of (row ∷ rows) h zero j l m =
    let first : T (eqb (get_or row 1 0) (point_before rows) && (eqb (length row) 16 && powers_follow (get_or row 1 0) 1 row)) = and_l _ (rows_descend rows) h in
    let later : T (eqb (length row) 16 && powers_follow (get_or row 1 0) 1 row) = and_r (eqb (get_or row 1 0) (point_before rows)) _ first in
    let long : length row ≡ 16 = eqb→eq (length row) 16 (and_l (eqb (length row) 16) (powers_follow (get_or row 1 0) 1 row) later) in
    let this : get_or row 1 0 ≡ power 2 (length rows) =
    eqb→eq (get_or row 1 0) (point_before rows) (and_l (eqb (get_or row 1 0) (point_before rows)) (eqb (length row) 16 && powers_follow (get_or row 1 0) 1 row) first) ∙ point_of rows (and_r (eqb (get_or row 1 0) (point_before rows) && (eqb (length row) 16 && powers_follow (get_or row 1 0) 1 row)) _ h) in
    followed (get_or row 1 0) 0 1 row (sym (power-zero _)) (and_r (eqb (length row) 16) _ later) j (omega arith)
    ∙ ap₂ power (this ∙ ap (power 2) (let f : length rows ≡ suc (length rows) - 1 - 0 = omega arith in f)) (let f : 0 + j ≡ j = omega arith in f)
row_of (row ∷ rows) h (suc k) j l m =
    row_of rows (and_r (eqb (get_or row 1 0) (point_before rows) && (eqb (length row) 16 && powers_follow (get_or row 1 0) 1 row)) _ h) k j (omega arith) m
    ∙ ap (λ n. power (power 2 n) j) (let f : length rows - 1 - k ≡ suc (length rows) - 1 - suc k = omega arith in f)

powers_hold : T (rows_descend POINT_POWERS)
unfolding field_product polynomial_product polynomial_remainder
powers_hold = tt

pub point_rows : HoldPowers POINT_POWERS
point_rows k j l m = row_of POINT_POWERS powers_hold k j l m

-- ---- the rows of checks

abbrev pub checks_hold : List (List ℕ) → List (List ℕ) → Bool
checks_hold checks powers = all_below (λ i. all_below (λ j. eqb (sum_below (λ k. field_product (entry checks i k) (entry powers (132 + k) j)) 16) (cond (eqb i j) 1 0)) 16) 16

checks_are_units : T (checks_hold CHECKS POINT_POWERS)
unfolding field_product polynomial_product polynomial_remainder sum_below
checks_are_units = tt

checks_from : (checks powers : List (List ℕ)) → HoldPowers powers → T (checks_hold checks powers) → HoldChecks checks
checks_from checks powers points h i j l m =
    sum_same _ _ 16 (λ k b. ap (field_product (entry checks i k)) (sym (points (132 + k) j (omega arith) m)))
    ∙ eqb→eq _ _ (every_below (λ j. eqb (sum_below (λ k. field_product (entry checks i k) (entry powers (132 + k) j)) 16) (cond (eqb i j) 1 0)) 16
    (every_below (λ i. all_below (λ j. eqb (sum_below (λ k. field_product (entry checks i k) (entry powers (132 + k) j)) 16) (cond (eqb i j) 1 0)) 16) 16 h i l) j m)

pub check_unit_rows : HoldChecks CHECKS
check_unit_rows = checks_from CHECKS POINT_POWERS point_rows checks_are_units

-- ---- the rows of blocks

abbrev pub blocks_hold : List (List (List ℕ)) → List (List ℕ) → Bool
blocks_hold blocks powers = all_below (λ k. all_below (λ i. eqb (entry (get_or blocks (k / 16) []) i (k % 16)) (entry powers k i)) 9) 148

blocks_are_powers : T (blocks_hold BLOCK_POWERS POINT_POWERS)
blocks_are_powers = tt

blocks_from : (blocks : List (List (List ℕ))) (powers : List (List ℕ)) → HoldPowers powers → T (blocks_hold blocks powers) → HoldBlocks blocks
blocks_from blocks powers points h k i l m =
    eqb→eq _ _ (every_below (λ i. eqb (entry (get_or blocks (k / 16) []) i (k % 16)) (entry powers k i)) 9
    (every_below (λ k. all_below (λ i. eqb (entry (get_or blocks (k / 16) []) i (k % 16)) (entry powers k i)) 9) 148 h k l) i m)
    ∙ points k i l (omega arith)

pub block_rows : HoldBlocks BLOCK_POWERS
block_rows = blocks_from BLOCK_POWERS POINT_POWERS point_rows blocks_are_powers
