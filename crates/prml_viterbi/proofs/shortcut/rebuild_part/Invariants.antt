-- What is written so far is the one word that can have these clean samples, if it was before.
use Rattle.prml_viterbi.specs.Clean.{AreRebuilt}
use Rattle.prml_viterbi.proofs.shortcut.rebuild_part.Given as goal

abbrev pub invariant-loop-k : goal.invariant-loop-k
invariant-loop-k l = AreRebuilt l.samples l.fn.out l.fn.last.two_back l.fn.last.one_back l.fn.from → AreRebuilt l.samples l.out l.two_back l.one_back l.k
