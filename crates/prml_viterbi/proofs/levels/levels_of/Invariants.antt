-- The levels written, with those of the bits that are left, are the level word.
use Rattle.std.proofs.Common.{◌≡◌, ◌++◌, take, drop}
use Rattle.prml_viterbi.specs.Levels.{level_word, levels_after}
use Rattle.prml_viterbi.proofs.levels.levels_of.Given as goal

abbrev pub invariant-loop-k : goal.invariant-loop-k
invariant-loop-k l = take l.k l.out ++ levels_after l.high (drop l.k l.chan) ≡ level_word l.chan
