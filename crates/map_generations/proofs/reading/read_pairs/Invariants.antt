use Rattle.std.proofs.Common.{◌≡◌, ◌+◌, ◌++◌, length}
use Rattle.map_generations.specs.Reading.{pairs_in}
use Rattle.map_generations.proofs.reading.read_pairs.Given as goal

-- so many pairs are added
abbrev pub invariant-loop-i : goal.invariant-loop-i
invariant-loop-i l = record {
  read : l.list.items ≡ l.initial.list.items ++ pairs_in l.i l.block;
  long : length l.list.items ≡ length l.initial.list.items + l.i;
}
