-- For each state the best of the words so far is kept.
use Rattle.std.proofs.Common.{ℕ, ◌<◌, List, ℤ, pos, get_or, FitsSigned, w8}
use Rattle.prml_viterbi.specs.declared.trellis.Sums.{Sums}
use Rattle.prml_viterbi.proofs.Steps.{AllKept}
use Rattle.prml_viterbi.proofs.trellis.search.Given as goal

pub record IsSearched (samples : List ℤ) (survivors : List ℕ) (sums : Sums) (k : ℕ) : Type 0 where
  pub all : AllKept samples k sums survivors
  pub fit : (j : ℕ) → j < k → FitsSigned w8 (get_or samples j (pos 0))

abbrev pub invariant-loop-k : goal.invariant-loop-k
invariant-loop-k l = IsSearched l.samples l.survivors l.sums l.k
