-- What the records of a map say of it.
use Rattle.std.specs.Prelude.{◌≡◌, ℕ, ◌<◌, ◌⊎◌, Some, None}
use Rattle.geometry_map.specs.declared.size.Size.{Size}
use Rattle.geometry_map.specs.Size.{HasMeasures}
use Rattle.geometry_map.specs.DefectMap.{DefectMap, IsValidMap}
use Rattle.map_generations.specs.declared.recovery.Decision.{Decision}
use Rattle.map_generations.specs.MapRecord.{record_bytes, record_sector, map_record, IsState}
use Rattle.map_generations.specs.Recovery.{Reads, IsComplete, IsDecided}

-- the maps are of drives with the same measures, and have the same lists
pub record AreAlike (m n : DefectMap) : Type 0 where
  pub measures : HasMeasures m.size n.size.cylinders n.size.heads n.size.sectors n.size.reserved
  pub primary : m.primary ≡ n.primary
  pub grown : m.grown ≡ n.grown

-- the data of its four records tell a map: valid maps with the same data are alike
abbrev pub RecordsTellMaps : Type 0
RecordsTellMaps = (m n : DefectMap) → IsValidMap m → IsValidMap n
    → ((index : ℕ) → index < 4 → record_bytes m index ≡ record_bytes n index) → AreAlike m n

-- whatever the sectors read as, recovery may decide one way at most
abbrev pub DecisionsAgree : Type 0
DecisionsAgree = (size : Size) (reads : Reads) (d e : Decision) → IsDecided size reads d → IsDecided size reads e → d ≡ e

-- a record reads in copy 0, or copy 0 reads as nothing and it reads in copy 1
abbrev pub IsReadable : DefectMap → Reads → ℕ → Type 0
IsReadable m reads index =
    (reads (record_sector m.slot 0 index).0 ≡ Some (map_record m 0 index))
    ⊎ ((reads (record_sector m.slot 0 index).0 ≡ None) × (reads (record_sector m.slot 1 index).0 ≡ Some (map_record m 1 index)))

-- a slot that a valid map was written to is complete for it, where each record reads in one of the copies at least
abbrev pub WrittenSlotsAreComplete : Type 0
WrittenSlotsAreComplete = (m : DefectMap) (reads : Reads) → IsValidMap m → IsState m.state → ((index : ℕ) → index < 4 → IsReadable m reads index)
    → IsComplete m.size reads m
