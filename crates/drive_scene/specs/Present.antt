-- When a map is that of the operations.
use Rattle.std.specs.Prelude.{◌^◌, ◌<◌, List}
use Rattle.platter_model.specs.declared.op.Op.{Op}
use Rattle.geometry_map.specs.DefectMap.{DefectMap}
use Rattle.sector_store.specs.Maps.{MayBeRecovered}
use Rattle.sector_store.specs.Stored.{IsThere, KeepsBlocks}

-- a map is there after operations, recovery may take it, and whatever it takes has the values that are stored by this one
pub record IsPresentMap (m : DefectMap) (ops : List Op) : Type 0 where
  pub there : IsThere m ops
  pub number : m.number < 2 ^ 63
  pub may_be : MayBeRecovered m.size ops m
  pub finds : KeepsBlocks m ops ops
