-- The detector keeps its room for nine samples.
use Rattle.std.proofs.Common.{◌≡◌, ◌≤◌}
use Rattle.channel_tests.proofs.prml_viterbi_tests.detects_the_least_of_all_words.Given as goal

abbrev pub invariant-loop-number : goal.invariant-loop-number
invariant-loop-number g l = (l.work ≡ 9) × (l.n ≤ 9)

abbrev pub invariant-loop-n : goal.invariant-loop-n
invariant-loop-n g l = l.work ≡ 9
