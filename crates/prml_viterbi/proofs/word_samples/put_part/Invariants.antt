-- the samples so far are written
use Rattle.std.proofs.Common.{◌≡◌, ℕ, ◌+◌, ◌*◌, ◌<◌, pos, get_or}
use Rattle.prml_viterbi.specs.LevelBits.{sample_by}
use Rattle.prml_viterbi.proofs.word_samples.put_part.Given as goal

abbrev pub invariant-loop-k : goal.invariant-loop-k
invariant-loop-k l = (m : ℕ) → m < l.k → get_or l.places m (pos 0) ≡ sample_by (4 * l.levels + l.before) m
