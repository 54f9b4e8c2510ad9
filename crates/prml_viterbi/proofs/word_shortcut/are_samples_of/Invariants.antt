-- the samples of the words so far are clean, and the last two levels are known
use Rattle.std.proofs.Common.{◌*◌, ◌<◌, length, take}
use Rattle.bit_words.specs.Words.{word_bits}
use Rattle.prml_viterbi.proofs.CleanWords.{AreCleanTo}
use Rattle.prml_viterbi.proofs.LevelNumbers.{AreLevelsFrom}
use Rattle.prml_viterbi.proofs.word_shortcut.are_samples_of.Given as goal

abbrev pub invariant-loop-j : goal.invariant-loop-j
invariant-loop-j l = record {
  two : l.before < 4;
  levels : AreLevelsFrom (take (length l.samples) (word_bits l.words)) (64 * l.j) 2 l.before;
  clean : AreCleanTo l.samples (take (length l.samples) (word_bits l.words)) (64 * l.j);
}
