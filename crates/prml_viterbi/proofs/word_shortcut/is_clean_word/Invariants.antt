-- whether the rows so far are clean
use Rattle.std.proofs.Common.{◌+◌, ◌*◌, Decides}
use Rattle.prml_viterbi.specs.LevelBits.{AreSamplesBy}
use Rattle.prml_viterbi.proofs.word_shortcut.is_clean_word.Given as goal

abbrev pub invariant-loop-i : goal.invariant-loop-i
invariant-loop-i l = Decides l.clean (AreSamplesBy l.samples (4 * l.levels + l.before) (8 * l.i))
