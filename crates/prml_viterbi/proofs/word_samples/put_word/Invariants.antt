-- the samples so far are written
use Rattle.std.proofs.Common.{◌≡◌, ℕ, ◌+◌, ◌*◌, ◌<◌, pos, get_or}
use Rattle.prml_viterbi.specs.LevelBits.{sample_by}
use Rattle.prml_viterbi.proofs.word_samples.put_word.Given as goal

abbrev pub invariant-loop-i : goal.invariant-loop-i
invariant-loop-i l = (k : ℕ) → k < 8 * l.i → get_or l.places k (pos 0) ≡ sample_by (4 * l.levels + l.before) k
