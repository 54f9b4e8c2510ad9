-- The table of samples holds them, row by row.
use Rattle.std.proofs.Common.{◌≡◌, ℕ, zero, suc, ◌+◌, ◌*◌, ◌<◌, Bool, true, false, eqb, take, drop, get_or, pos, ◌-ℤ◌, ◌*ℤ◌, FitsSigned, w8, lit<, refl, sym, ap, ◌∙◌, arith}
use Rattle.std.specs.Int.{bit_at}
use Rattle.std.specs.List.{flat_map, range_with_len}
use Rattle.std.proofs.lemmas.List.{get_or-take, get_or-drop}
use Rattle.prml_viterbi.specs.Levels.{level_for}
use Rattle.prml_viterbi.specs.LevelBits.{eight_samples, sample_by}
use Rattle.prml_viterbi.specs.declared.sample_rows.TheConstants.{SAMPLE_ROWS}
use Rattle.prml_viterbi.proofs.LevelNumbers.{get_or-eight_samples}

rows_are : SAMPLE_ROWS ≡ flat_map eight_samples (range_with_len 0 1024)
rows_are = refl

one_row : (a n l : ℕ) → l < n → take 8 (drop (8 * l) (flat_map eight_samples (range_with_len a n))) ≡ eight_samples (a + l)
one_row a zero l less = absurd (omega arith)
one_row a (suc n) zero less = let z : a ≡ a + 0 = omega arith in ap eight_samples z
one_row a (suc n) (suc l) less =
    let e : 8 * suc l ≡ suc (suc (suc (suc (suc (suc (suc (suc (8 * l)))))))) = omega arith in
    let s : a + 1 + l ≡ a + suc l = omega arith in
    ap (λ k. take 8 (drop k (flat_map eight_samples (range_with_len a (suc n))))) e ∙ one_row (a + 1) n l (omega arith) ∙ ap eight_samples s

-- the row of ten levels
pub row_is : (levels : ℕ) → levels < 1024 → take 8 (drop (8 * levels) SAMPLE_ROWS) ≡ eight_samples levels
row_is levels fits =
    let z : 0 + levels ≡ levels = omega arith in
    ap (λ rows. take 8 (drop (8 * levels) rows)) rows_are ∙ one_row 0 1024 levels fits ∙ ap eight_samples z

-- one sample of it
pub sample_is : (levels k : ℕ) → levels < 1024 → k < 8 → get_or SAMPLE_ROWS (8 * levels + k) (pos 0) ≡ sample_by levels k
sample_is levels k fits below =
    sym (get_or-drop (8 * levels) SAMPLE_ROWS k (pos 0))
    ∙ sym (get_or-take 8 (drop (8 * levels) SAMPLE_ROWS) k (pos 0) below)
    ∙ ap (λ row. get_or row k (pos 0)) (row_is levels fits)
    ∙ get_or-eight_samples levels k below

difference_fits : (a b : Bool) → FitsSigned w8 (pos 16 *ℤ (level_for a -ℤ level_for b))
difference_fits true true = record { sfits = lit< tt }
difference_fits true false = record { sfits = lit< tt }
difference_fits false true = record { sfits = lit< tt }
difference_fits false false = record { sfits = lit< tt }

pub sample_fits : (levels k : ℕ) → FitsSigned w8 (sample_by levels k)
sample_fits levels k = difference_fits (eqb (bit_at levels (k + 2)) 0) (eqb (bit_at levels k) 0)
