use Rattle.std.proofs.Common.{◌≡◌, length}
use Rattle.map_generations.specs.Reading.{sectors_in}
use Rattle.map_generations.proofs.reading.sectors_of.Given as goal

-- so many sectors are read
abbrev pub invariant-loop-i : goal.invariant-loop-i
invariant-loop-i l = record { read : l.list.items ≡ sectors_in l.i l.block; long : length l.list.items ≡ l.i }
