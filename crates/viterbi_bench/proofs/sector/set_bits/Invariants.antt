-- No more than two 0s are counted.
use Rattle.std.proofs.Common.{◌≤◌}
use Rattle.viterbi_bench.proofs.sector.set_bits.Given as goal

abbrev pub invariant-loop-bit : goal.invariant-loop-bit
invariant-loop-bit l = l.zeros ≤ 2
