use Rattle.std.proofs.Common.{◌≡◌, ◌++◌, map, take}
use Rattle.move_table.proofs.moves.add_spares.Given as goal

-- the spares of the pairs so far stand behind those of before
abbrev pub invariant-loop-pair : goal.invariant-loop-pair
invariant-loop-pair l = l.spares.items ≡ l.initial.spares.items ++ map (λ pair. pair.new) (take l.pair-index l.initial.flight.job.chain)
