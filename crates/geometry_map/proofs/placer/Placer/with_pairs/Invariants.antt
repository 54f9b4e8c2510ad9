use Rattle.std.proofs.Common.{◌++◌, take}
use Rattle.geometry_map.specs.DefectMap.{DefectMap, IsGrownList, with_pairs}
use Rattle.geometry_map.specs.Placer.{IsPlacerOf}
use Rattle.geometry_map.proofs.placer.Placer.with_pairs.Given as goal

-- it is the placer of the map with the pairs so far
abbrev pub invariant-loop-pair : goal.invariant-loop-pair
invariant-loop-pair l =
    (m : DefectMap) → IsPlacerOf l.fn.self m → IsGrownList m.size m.primary (m.grown ++ l.fn.pairs) → IsPlacerOf l.placer (with_pairs m (take l.pair-index l.fn.pairs))
