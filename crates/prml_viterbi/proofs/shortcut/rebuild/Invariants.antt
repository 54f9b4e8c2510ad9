-- What is written so far is the one word that can have these clean samples.
use Rattle.std.proofs.Common.{length, ◌-◌}
use Rattle.prml_viterbi.specs.Clean.{AreRebuilt}
use Rattle.prml_viterbi.proofs.shortcut.rebuild.Given as goal

abbrev pub invariant-loop-from : goal.invariant-loop-from
invariant-loop-from l = AreRebuilt l.samples l.out l.last.two_back l.last.one_back l.from

abbrev pub decreases-loop-from : goal.decreases-loop-from
decreases-loop-from l = length l.samples - l.from
