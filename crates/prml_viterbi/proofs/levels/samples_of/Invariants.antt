-- The samples written are the clean ones.
use Rattle.std.proofs.Common.{◌≡◌, ℕ, ◌<◌, pos, get_or}
use Rattle.prml_viterbi.specs.Levels.{clean_at}
use Rattle.prml_viterbi.proofs.levels.samples_of.Given as goal

abbrev pub invariant-loop-k : goal.invariant-loop-k
invariant-loop-k l = (j : ℕ) → j < l.k → get_or l.out j (pos 0) ≡ clean_at l.levels j
