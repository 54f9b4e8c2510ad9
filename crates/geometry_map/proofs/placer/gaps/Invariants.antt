use Rattle.std.proofs.Common.{◌≡◌, take}
use Rattle.geometry_map.specs.Placer.{gaps_of}
use Rattle.geometry_map.proofs.placer.gaps.Given as goal

-- the gaps of the sectors so far
abbrev pub invariant-loop-i : goal.invariant-loop-i
invariant-loop-i l = l.gaps.items ≡ gaps_of (take l.i l.primary)
