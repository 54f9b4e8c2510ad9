-- What holds of stores, whatever their operations.
use Rattle.std.specs.Prelude.{◌≡◌, ℕ, ◌<◌, ◌≤◌, Bool, List, All, Option, Some, map}
use Rattle.disk_base.specs.declared.address.Lba.{Lba}
use Rattle.disk_base.specs.declared.address.Psn.{Psn}
use Rattle.disk_base.specs.declared.block.Value.TheVariants.{Data}
use Rattle.disk_base.specs.declared.payload.Payload.{Payload}
use Rattle.disk_base.specs.declared.stage.Stage.{Stage}
use Rattle.disk_base.specs.Payload.{value_for}
use Rattle.platter_model.specs.declared.op.Op.{Op}
use Rattle.platter_model.specs.declared.op.Op.TheVariants.{Wrote}
use Rattle.platter_model.specs.declared.answer.WriteAnswer.TheVariants.{Written, Fault, Off}
use Rattle.platter_model.specs.Sector.{meant, is_faulty}
use Rattle.platter_model.specs.State.{State, after_write, tried, write_answer}
use Rattle.platter_model.specs.TrueLog.{strays}
use Rattle.geometry_map.specs.declared.size.Size.{Size}
use Rattle.geometry_map.specs.Size.{capacity_of, total_of}
use Rattle.geometry_map.specs.DefectMap.{DefectMap, place_of, factory_map, IsValidMap}
use Rattle.map_generations.specs.SafeMaps.{IsPresent}
use Rattle.sector_store.specs.Maps.{meant_on, MayBeRecovered}
use Rattle.sector_store.specs.Stored.{stored, IsThere, KeepsBlocks, KeepsOthers, StoresAt, MayStoreAt}
use Rattle.sector_store.specs.Factory.{factory_payloads}
use Rattle.sector_store.specs.State.{KeepsMaps, IsStore, made_by_factory, placed}

-- where a map is there, each map that recovery may take has its values for all blocks
abbrev pub RecoveryFindsWhatIsStored : Type 0
RecoveryFindsWhatIsStored = (m taken : DefectMap) (ops : List Op) → IsThere m ops → MayBeRecovered m.size ops taken → (b : Lba)
    → stored taken ops b ≡ stored m ops b

-- a valid map that is present and in use is there
abbrev pub PresentMapsAreThere : Type 0
PresentMapsAreThere = (m : DefectMap) (ops : List Op) → IsValidMap m → m.state ≡ 0 → IsPresent (meant_on ops) m → IsThere m ops

-- a map stays there while nothing that is meant changes, and each map that recovery may take keeps the values of all blocks
abbrev pub QuietOpsKeepBlocks : Type 0
QuietOpsKeepBlocks = (m : DefectMap) (ops more : List Op) → IsThere m ops → ((p : Psn) → meant p more ≡ meant p ops)
    → IsThere m more × KeepsBlocks m ops more

-- a platter that has as many sectors as before, and on the sectors of the maps the same that is meant, the same faults; and no fewer
-- strays
pub record IsQuietBelow (before after : State) : Type 0 where
  pub sectors : after.sectors ≡ before.sectors
  pub same : (p : ℕ) → p < 16 → meant_on after.ops p ≡ meant_on before.ops p
  pub faults : (p : Psn) → p.0 < 16 → is_faulty p after.ops ≡ is_faulty p before.ops
  pub strays_grow : strays before.ops ≤ strays after.ops

-- a store keeps its maps while nothing changes there
abbrev pub QuietOpsKeepMaps : Type 0
QuietOpsKeepMaps = (m : DefectMap) (next : Option DefectMap) (ready : Bool) (before after : State) → KeepsMaps m next ready before
    → IsQuietBelow before after → KeepsMaps m next ready after

-- what a write of a block's data to its place does: the map stays there, the other blocks keep their values, and the block
-- has its data where the write was done, its old value where the sector was faulty, and one of both or none where the power went
pub record IsBlockWrite (m : DefectMap) (before : State) (b : Lba) (bytes : List ℕ) : Type 0 where
  pub there : IsThere m (after_write before (place_of m b) (placed m b bytes)).ops
  pub others : KeepsOthers m before.ops (after_write before (place_of m b) (placed m b bytes)).ops b
  pub done : write_answer before (place_of m b) ≡ Written
      → StoresAt m (after_write before (place_of m b) (placed m b bytes)).ops b (Data bytes)
  pub fault : write_answer before (place_of m b) ≡ Fault
      → StoresAt m (after_write before (place_of m b) (placed m b bytes)).ops b (stored m before.ops b)
  pub off : write_answer before (place_of m b) ≡ Off
      → MayStoreAt m (after_write before (place_of m b) (placed m b bytes)).ops b (stored m before.ops b) (Data bytes)

-- each write of a block is one
abbrev pub WritesStoreOneBlock : Type 0
WritesStoreOneBlock = (m : DefectMap) (before : State) (b : Lba) (bytes : List ℕ) → IsThere m before.ops → b.0 < capacity_of m.size
    → IsBlockWrite m before b bytes

-- a try that is no stray finds the value that is stored
abbrev pub TriesFindWhatIsStored : Type 0
TriesFindWhatIsStored = (m : DefectMap) (s : State) (b : Lba) (stage : Stage) (payload : Payload)
    → strays (tried s (place_of m b) stage (Some payload)).ops ≡ strays s.ops → value_for b payload ≡ stored m s.ops b

-- the map that a factory leaves is there
abbrev pub FactoryMapsAreThere : Type 0
FactoryMapsAreThere = (size : Size) (primary : List Psn) → IsValidMap (factory_map size primary)
    → IsThere (factory_map size primary) (map Wrote (factory_payloads size primary))

-- a store as a factory makes it keeps its map
abbrev pub FactoryStoresKeepMaps : Type 0
FactoryStoresKeepMaps = (size : Size) (primary : List Psn) → IsValidMap (factory_map size primary) → IsStore (made_by_factory size primary)

-- a factory writes to sectors of the drive alone
abbrev pub FactoryPayloadsAreOnSectors : Type 0
FactoryPayloadsAreOnSectors = (size : Size) (primary : List Psn) → IsValidMap (factory_map size primary)
    → All (λ payload. payload.psn.0 < total_of size) (factory_payloads size primary)
