use Rattle.std.proofs.Common.{◌≡◌, ◌++◌, map, take, drop}
use Rattle.geometry_map.specs.Placer.{followed}
use Rattle.geometry_map.proofs.placer.lead_on.Given as goal

-- the routes looked at so far have gone on by the pair, the others are as they were
abbrev pub invariant-loop-route : goal.invariant-loop-route
invariant-loop-route l = l.remap ≡ map (followed l.fn.pair) (take l.route-index l.initial.remap) ++ drop l.route-index l.initial.remap
