use Rattle.std.proofs.Common.{subst}
use Rattle.geometry_map.specs.DefectMap.{IsValidMap}
use Rattle.geometry_map.proofs.map.Map.lists_are_valid.Goals as goal

pub returns : goal.returns
returns c = subst IsValidMap c.self.view_is c.self.invariant
