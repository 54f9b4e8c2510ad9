-- Codewords within reach of a word.
use Rattle.std.specs.Prelude.{ℕ, ◌+◌, ◌*◌, ◌≤◌, Bool, false, not, ◌&&◌, List, slice_index_or}
use Rattle.rs_sector.specs.Code.{IsCodeword, count_below, differs_at, differing}

-- the codeword differs from the word in at most radius places
pub record IsNear (word : List ℕ) (radius : ℕ) (codeword : List ℕ) : Type 0 where
  pub is_codeword : IsCodeword codeword
  pub near : differing word codeword ≤ radius

-- place k is marked
abbrev pub is_marked : List Bool → ℕ → Bool
is_marked marks k = slice_index_or marks k false

-- how many of the 148 places are marked
unfoldable pub marked : List Bool → ℕ
marked marks = count_below (is_marked marks) 148

-- in how many places that are not erased two words differ
unfoldable pub differing_outside : List Bool → List ℕ → List ℕ → ℕ
differing_outside erased a b = count_below (λ k. differs_at a b k && not (is_marked erased k)) 148

-- the codeword differs from the word in e places outside the f erased ones, with 2 e + f at most 16
pub record IsNearErased (word : List ℕ) (erased : List Bool) (codeword : List ℕ) : Type 0 where
  pub is_codeword : IsCodeword codeword
  pub near : 2 * differing_outside erased word codeword + marked erased ≤ 16
