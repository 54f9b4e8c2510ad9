-- the samples of the words so far are written, and the last two levels are known
use Rattle.std.proofs.Common.{◌≡◌, ℕ, ◌*◌, ◌<◌, length, take, pos, get_or}
use Rattle.bit_words.specs.Words.{word_bits}
use Rattle.prml_viterbi.specs.Levels.{level_word, clean_at}
use Rattle.prml_viterbi.proofs.LevelNumbers.{AreLevelsFrom}
use Rattle.prml_viterbi.proofs.word_samples.samples_of_words.Given as goal

abbrev pub invariant-loop-j : goal.invariant-loop-j
invariant-loop-j l = record {
  two : l.before < 4;
  levels : AreLevelsFrom (take (length l.fn.out) (word_bits l.words)) (64 * l.j) 2 l.before;
  samples : (k : ℕ) → k < 64 * l.j → get_or l.out k (pos 0) ≡ clean_at (level_word (take (length l.fn.out) (word_bits l.words))) k;
}
