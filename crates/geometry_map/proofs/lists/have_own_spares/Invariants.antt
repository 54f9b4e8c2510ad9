use Rattle.std.proofs.Common.{take}
use Rattle.std.specs.Prelude.{AllPairs}
use Rattle.geometry_map.specs.DefectMap.{HaveOwnSpares}
use Rattle.geometry_map.proofs.lists.have_own_spares.Given as goal

-- the pairs so far have spares of their own
abbrev pub invariant-loop-i : goal.invariant-loop-i
invariant-loop-i l = AllPairs HaveOwnSpares (take l.i l.pairs)
