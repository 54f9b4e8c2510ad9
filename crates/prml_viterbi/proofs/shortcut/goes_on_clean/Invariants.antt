-- Whether the places so far are clean.
use Rattle.std.proofs.Common.{ℕ, ◌<◌, ◌≤◌, length, Decides}
use Rattle.prml_viterbi.specs.Clean.{IsCleanAt}
use Rattle.prml_viterbi.proofs.shortcut.goes_on_clean.Given as goal

abbrev pub invariant-loop-k : goal.invariant-loop-k
invariant-loop-k l = Decides l.clean ((j : ℕ) → 3 ≤ j → j < l.k → j < length l.samples → IsCleanAt l.samples l.word j)
