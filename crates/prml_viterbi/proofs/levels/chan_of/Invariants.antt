-- The bits written, with those of the levels that are left, are the word's channel bits.
use Rattle.std.proofs.Common.{◌≡◌, ◌++◌, take, drop}
use Rattle.prml_viterbi.specs.Levels.{channel_bits, bits_after}
use Rattle.prml_viterbi.proofs.levels.chan_of.Given as goal

abbrev pub invariant-loop-k : goal.invariant-loop-k
invariant-loop-k l = take l.k l.out ++ bits_after l.high (drop l.k l.levels) ≡ channel_bits l.levels
