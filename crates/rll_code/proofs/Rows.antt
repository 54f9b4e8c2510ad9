-- Rows side by side.
use Rattle.std.proofs.Common.{◌≡◌, ◌*◌, ◌≤◌, List, [], ◌∷◌, length, refl, length-append, arith}
use Rattle.std.specs.List.{flat_map}
use Rattle.rll_code.specs.Code.{Row, row_10, row_11, row_000, row_010, row_011, row_0010, row_0011, left_side, right_side}

pub side_lengths : (r : Row) → length (right_side r) ≡ 2 * length (left_side r)
side_lengths row_10 = refl
side_lengths row_11 = refl
side_lengths row_000 = refl
side_lengths row_010 = refl
side_lengths row_011 = refl
side_lengths row_0010 = refl
side_lengths row_0011 = refl

pub right_side_long : (r : Row) → 2 ≤ length (right_side r)
right_side_long row_10 = omega arith
right_side_long row_11 = omega arith
right_side_long row_000 = omega arith
right_side_long row_010 = omega arith
right_side_long row_011 = omega arith
right_side_long row_0010 = omega arith
right_side_long row_0011 = omega arith

-- right sides are twice as long as left sides
pub twice_as_long : (rs : List Row) → length (flat_map right_side rs) ≡ 2 * length (flat_map left_side rs)
twice_as_long [] = refl
twice_as_long (r ∷ rs) =
    omega (arith, side_lengths r, twice_as_long rs, length-append (right_side r) (flat_map right_side rs), length-append (left_side r) (flat_map left_side rs))
