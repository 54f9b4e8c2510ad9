-- whether the samples so far are clean
use Rattle.std.proofs.Common.{◌≡◌, ℕ, ◌+◌, ◌*◌, ◌<◌, get_or, pos, Decides}
use Rattle.prml_viterbi.specs.LevelBits.{sample_by}
use Rattle.prml_viterbi.proofs.word_shortcut.is_clean_part.Given as goal

abbrev pub invariant-loop-k : goal.invariant-loop-k
invariant-loop-k l = Decides l.clean ((j : ℕ) → j < l.k → get_or l.samples j (pos 0) ≡ sample_by (4 * l.levels + l.before) j)
