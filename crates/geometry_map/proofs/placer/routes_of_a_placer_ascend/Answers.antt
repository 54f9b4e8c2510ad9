use Rattle.geometry_map.proofs.RemapLemmas.{routes_ascend}
use Rattle.geometry_map.proofs.placer.routes_of_a_placer_ascend.Goals as goal

pub returns : goal.returns
returns c = routes_ascend
