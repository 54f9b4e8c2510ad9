-- What windows of operations show of tries and of writes.
use Rattle.std.specs.Prelude.{◌≡◌, ℕ, List, Contains, Some, None}
use Rattle.disk_base.specs.declared.address.Lba.{Lba}
use Rattle.disk_base.specs.declared.address.Psn.{Psn}
use Rattle.disk_base.specs.declared.block.Value.{Value}
use Rattle.disk_base.specs.declared.payload.Payload.{Payload}
use Rattle.disk_base.specs.declared.stage.Stage.{Stage}
use Rattle.disk_base.specs.Payload.{value_for}
use Rattle.platter_model.specs.declared.op.Op.{Op}
use Rattle.platter_model.specs.declared.op.Op.TheVariants.{Tried, Wrote}
use Rattle.geometry_map.specs.DefectMap.{DefectMap, place_of}

-- a window shows that a stage found nothing at a sector
abbrev pub FoundNothing : List Op → Psn → Stage → Type 0
FoundNothing window p stage = (at : ℕ) × Contains window (Tried at p stage None)

-- a window shows that a stage found a payload at a sector that has this value for a block
abbrev pub FoundValue : List Op → Psn → Stage → Lba → Value → Type 0
FoundValue window p stage b v =
    (at : ℕ) × (payload : Payload) × Contains window (Tried at p stage (Some payload)) × (value_for b payload ≡ v)

-- operations write a value of a block to its place
abbrev pub WritesBlock : DefectMap → Lba → Value → List Op → Type 0
WritesBlock m b v ops = (payload : Payload) × Contains ops (Wrote payload) × (payload.psn ≡ place_of m b) × (value_for b payload ≡ v)
