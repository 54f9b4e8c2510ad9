-- Message bits split into rows as they come: whole rows so far, and the beginning of a left side that still waits.
use Rattle.std.proofs.Common.{◌≡◌, Bool, true, false, List, [], ◌∷◌, ◌++◌, refl, sym, ap, ◌∙◌, append_assoc}
use Rattle.std.specs.List.{flat_map}
use Rattle.std.proofs.lemmas.List.{append-nil}
use Rattle.std.proofs.lemmas.List.Concat.{flat_map-append}
use Rattle.rll_code.specs.Code.{Row, row_10, row_11, row_000, row_010, row_011, row_0010, row_0011, left_side, tail}

-- the beginnings of left sides, named by their bits
pub data Beginning : Type 0 where
  none : Beginning
  one_0 : Beginning
  one_1 : Beginning
  two_00 : Beginning
  two_01 : Beginning
  three_001 : Beginning

abbrev pub beginning_bits : Beginning → List Bool
beginning_bits none = []
beginning_bits one_0 = false ∷ []
beginning_bits one_1 = true ∷ []
beginning_bits two_00 = false ∷ false ∷ []
beginning_bits two_01 = false ∷ true ∷ []
beginning_bits three_001 = false ∷ false ∷ true ∷ []

-- the rows that bits complete, and the beginning that waits then
pub record Split : Type 0 where
  pub whole : List Row
  pub waits : Beginning

-- one more bit
abbrev pub split_bit : Beginning → Bool → Split
split_bit none false = record { whole = []; waits = one_0 }
split_bit none true = record { whole = []; waits = one_1 }
split_bit one_0 false = record { whole = []; waits = two_00 }
split_bit one_0 true = record { whole = []; waits = two_01 }
split_bit one_1 false = record { whole = row_10 ∷ []; waits = none }
split_bit one_1 true = record { whole = row_11 ∷ []; waits = none }
split_bit two_00 false = record { whole = row_000 ∷ []; waits = none }
split_bit two_00 true = record { whole = []; waits = three_001 }
split_bit two_01 false = record { whole = row_010 ∷ []; waits = none }
split_bit two_01 true = record { whole = row_011 ∷ []; waits = none }
split_bit three_001 false = record { whole = row_0010 ∷ []; waits = none }
split_bit three_001 true = record { whole = row_0011 ∷ []; waits = none }

-- one bit after another
abbrev pub split_bits : Beginning → List Bool → Split
split_bits b [] = record { whole = []; waits = b }
split_bits b (x ∷ xs) =
    let first = split_bit b x in
    let others = split_bits first.waits xs in
    record { whole = first.whole ++ others.whole; waits = others.waits }

bit_splits : (b : Beginning) (x : Bool) (more : List Bool) → flat_map left_side (split_bit b x).whole ++ (beginning_bits (split_bit b x).waits ++ more) ≡ beginning_bits b ++ x ∷ more
bit_splits none false more = refl
bit_splits none true more = refl
bit_splits one_0 false more = refl
bit_splits one_0 true more = refl
bit_splits one_1 false more = refl
bit_splits one_1 true more = refl
bit_splits two_00 false more = refl
bit_splits two_00 true more = refl
bit_splits two_01 false more = refl
bit_splits two_01 true more = refl
bit_splits three_001 false more = refl
bit_splits three_001 true more = refl

-- the whole rows' left sides and what waits are what waited before and the bits
pub bits_split : (b : Beginning) (xs : List Bool) → flat_map left_side (split_bits b xs).whole ++ beginning_bits (split_bits b xs).waits ≡ beginning_bits b ++ xs
bits_split b [] = sym (append-nil (beginning_bits b))
bits_split b (x ∷ xs) =
    let s = split_bit b x in
    let r = split_bits s.waits xs in
    ap (λ l. l ++ beginning_bits r.waits) (flat_map-append left_side s.whole r.whole)
    ∙ append_assoc (flat_map left_side s.whole) (flat_map left_side r.whole) (beginning_bits r.waits)
    ∙ ap (λ l. flat_map left_side s.whole ++ l) (bits_split s.waits xs)
    ∙ bit_splits b x xs

-- the tail completes whatever waits
pub tail_completes : (b : Beginning) → (split_bits b tail).waits ≡ none
tail_completes none = refl
tail_completes one_0 = refl
tail_completes one_1 = refl
tail_completes two_00 = refl
tail_completes two_01 = refl
tail_completes three_001 = refl
