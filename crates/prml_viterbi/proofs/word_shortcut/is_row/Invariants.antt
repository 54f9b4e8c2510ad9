-- whether the samples so far are the row's
use Rattle.prml_viterbi.specs.LevelBits.{AreSamplesBy}
use Rattle.std.proofs.Common.{Decides}
use Rattle.prml_viterbi.proofs.word_shortcut.is_row.Given as goal

abbrev pub invariant-loop-k : goal.invariant-loop-k
invariant-loop-k l = Decides l.same (AreSamplesBy l.samples l.levels l.k)
