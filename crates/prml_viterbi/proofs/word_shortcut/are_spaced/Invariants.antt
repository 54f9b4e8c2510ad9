-- the words so far stand apart, and the two bits before the next are known
use Rattle.std.proofs.Common.{◌*◌, ◌<◌}
use Rattle.prml_viterbi.proofs.Spaced.{AreBefore, AreApartTo}
use Rattle.prml_viterbi.proofs.word_shortcut.are_spaced.Given as goal

abbrev pub invariant-loop-word : goal.invariant-loop-word
invariant-loop-word l = record {
  two : l.before < 4;
  before : AreBefore l.words l.word-index l.before;
  apart : AreApartTo l.words (64 * l.word-index);
}
