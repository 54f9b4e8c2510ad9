-- The value that operations store for a block, and what stands.
use Rattle.std.specs.Prelude.{◌≡◌, ◌≢◌, ◌⊎◌, ◌<◌, List, Option, Some, None}
use Rattle.disk_base.specs.declared.address.Lba.{Lba}
use Rattle.disk_base.specs.declared.block.Value.{Value}
use Rattle.disk_base.specs.declared.block.Value.TheVariants.{Lost}
use Rattle.disk_base.specs.declared.payload.Payload.{Payload}
use Rattle.disk_base.specs.Payload.{value_for}
use Rattle.platter_model.specs.declared.op.Op.{Op}
use Rattle.platter_model.specs.Sector.{meant}
use Rattle.geometry_map.specs.Size.{capacity_of}
use Rattle.geometry_map.specs.DefectMap.{DefectMap, place_of, IsValidMap}
use Rattle.map_generations.specs.MapRecord.{IsState}
use Rattle.map_generations.specs.SafeMaps.{IsPresent, SafeMaps, alone}
use Rattle.sector_store.specs.Maps.{meant_on, IsMapOf, MayBeRecovered}

-- the value for a block of a payload that may be missing: lost where there is none
abbrev pub value_in : Lba → Option Payload → Value
value_in b None = Lost
value_in b (Some payload) = value_for b payload

-- the value that is stored for a block: that of what is meant at its place by a map
abbrev pub stored : DefectMap → List Op → Lba → Value
stored m ops b = value_in b (meant (place_of m b) ops)

-- what stands: each map that recovery may take has, for each block, a value that the block is allowed
abbrev pub Stands : (Lba → Value → Type 0) → DefectMap → List Op → Type 0
Stands allowed m ops =
    (taken : DefectMap) → MayBeRecovered m.size ops taken → (b : Lba) → b.0 < capacity_of m.size → allowed b (stored taken ops b)

-- a map is there after operations: it is theirs, it and an older one are written whole, each to its slot, and so it is safe alone
pub record IsThere (m : DefectMap) (ops : List Op) : Type 0 where
  pub valid : IsValidMap m
  pub in_use : IsState m.state
  pub present : IsPresent (meant_on ops) m
  pub own : IsMapOf m.size ops m
  pub safe : SafeMaps (meant_on ops) (alone m)

-- after more operations each map that recovery may take has the values of before for all blocks
abbrev pub KeepsBlocks : DefectMap → List Op → List Op → Type 0
KeepsBlocks m ops more = (taken : DefectMap) → MayBeRecovered m.size more taken → (q : Lba) → stored taken more q ≡ stored m ops q

-- it has them for all blocks but one
abbrev pub KeepsOthers : DefectMap → List Op → List Op → Lba → Type 0
KeepsOthers m ops more b = (taken : DefectMap) → MayBeRecovered m.size more taken
    → (q : Lba) → q.0 < capacity_of m.size → q ≢ b → stored taken more q ≡ stored m ops q

-- after operations each map that recovery may take has this value for a block
abbrev pub StoresAt : DefectMap → List Op → Lba → Value → Type 0
StoresAt m more b v = (taken : DefectMap) → MayBeRecovered m.size more taken → stored taken more b ≡ v

-- what a write that was cut off may leave: the old value, the new one, or none
abbrev pub IsLeft : Value → Value → Value → Type 0
IsLeft old new v = (v ≡ old) ⊎ ((v ≡ new) ⊎ (v ≡ Lost))

-- after operations each map that recovery may take has one of these for a block
abbrev pub MayStoreAt : DefectMap → List Op → Lba → Value → Value → Type 0
MayStoreAt m more b old new = (taken : DefectMap) → MayBeRecovered m.size more taken → IsLeft old new (stored taken more b)
