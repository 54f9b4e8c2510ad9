use Rattle.std.proofs.Common.{◌≡◌, take}
use Rattle.move_table.specs.Table.{taken}
use Rattle.move_table.proofs.moves.Moves.spares.Given as goal

-- the spares of the moves so far
abbrev pub invariant-loop-flight : goal.invariant-loop-flight
invariant-loop-flight l = l.spares.items ≡ taken (take l.flight-index l.self.flights)
