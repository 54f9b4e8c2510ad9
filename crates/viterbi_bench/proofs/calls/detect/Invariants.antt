-- The detector keeps its room.
use Rattle.std.proofs.Common.{◌≤◌, length}
use Rattle.viterbi_bench.proofs.calls.detect.Given as goal

abbrev pub invariant-loop-round : goal.invariant-loop-round
invariant-loop-round l = length l.samples ≤ l.work
