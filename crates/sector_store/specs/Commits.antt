-- The next map and its writes, and what keeps the maps safe while a commit or a recovery writes them.
use Rattle.std.specs.Prelude.{◌≡◌, ℕ, ◌+◌, ◌-◌, ◌<◌, List, ◌++◌, map}
use Rattle.platter_model.specs.declared.op.Op.{Op}
use Rattle.platter_model.specs.declared.op.Op.TheVariants.{Wrote}
use Rattle.geometry_map.specs.declared.size.Size.{Size}
use Rattle.geometry_map.specs.DefectMap.{DefectMap, IsValidMap}
use Rattle.map_generations.specs.SafeMaps.{KeptPair, MayBeTaken, SafeMaps, IsPresent, with_map, alone}
use Rattle.sector_store.specs.Maps.{meant_on, records_of}
use Rattle.sector_store.specs.Shapes.{AreWrites, recovery_records}

-- a map follows another: it is valid, in use, of the same drive, with the next number, in the other slot
pub record IsNextOf (m next : DefectMap) : Type 0 where
  pub valid : IsValidMap next
  pub in_use : next.state ≡ 0
  pub of_drive : next.size ≡ m.size
  pub number : next.number ≡ m.number + 1
  pub slot : next.slot ≡ 1 - m.slot

-- what a commit comes to, wherever a cut ended it: the pair of both maps is safe; and once all is written, the next map is present
pub record CommitsSafely (m next : DefectMap) (ops more : List Op) : Type 0 where
  pub safe : SafeMaps (meant_on (ops ++ more)) (with_map (alone m) next)
  pub done : more ≡ map Wrote (records_of next) → IsPresent (meant_on (ops ++ more)) next

-- the writes of a commit from a present map to the one that follows it keep the maps safe
abbrev pub CommitOpsStaySafe : Type 0
CommitOpsStaySafe = (m next : DefectMap) (ops more : List Op) → IsPresent (meant_on ops) m → IsValidMap m → IsNextOf m next
    → AreWrites (records_of next) more → CommitsSafely m next ops more

-- what the writes of a recovery come to, wherever a cut ended them: the kept pair stays safe; and once all is written, the map that
-- was taken is present with four more as its number
pub record RecoversSafely (pair : KeptPair) (m : DefectMap) (ops more : List Op) : Type 0 where
  pub safe : SafeMaps (meant_on (ops ++ more)) pair
  pub done : more ≡ map Wrote (recovery_records m) → IsPresent (meant_on (ops ++ more)) (record m { number = m.number + 4 })

-- the writes of a recovery keep the maps safe
abbrev pub RecoveryOpsStaySafe : Type 0
RecoveryOpsStaySafe = (size : Size) (pair : KeptPair) (m : DefectMap) (ops more : List Op) → SafeMaps (meant_on ops) pair
    → MayBeTaken size (meant_on ops) m → AreWrites (recovery_records m) more → RecoversSafely pair m ops more

-- once all writes of a recovery are there, the map is present with four more as its number, whatever was meant before
abbrev pub RewrittenMapsArePresent : Type 0
RewrittenMapsArePresent = (m : DefectMap) (ops : List Op) → m.slot < 2
    → IsPresent (meant_on (ops ++ map Wrote (recovery_records m))) (record m { number = m.number + 4 })
