-- What keeps the maps safe, write by write, and what safe maps are for.
use Rattle.std.specs.Prelude.{◌≡◌, ℕ, ◌+◌, ◌-◌, ◌*◌, ◌^◌, ◌<◌, ◌≤◌, None}
use Rattle.disk_base.specs.declared.payload.Payload.{Payload}
use Rattle.geometry_map.specs.declared.size.Size.{Size}
use Rattle.geometry_map.specs.DefectMap.{DefectMap, IsValidMap}
use Rattle.map_generations.specs.MapRecord.{record_sector, map_record, IsState}
use Rattle.map_generations.specs.Recovery.{Reads, IsTaken}
use Rattle.map_generations.specs.SafeMaps.{KeptPair, MayBeTaken, kept_for, with_map, alone, AreValid, AreOneMap, IsKept, HasRecord, Belongs, SafeMaps, StandsTo, IsPresent, MayBeWritten, written, written_to, IsLeftTorn, NumbersUpTo}

-- where the maps are safe, recovery takes a kept map, whichever sectors can be read
abbrev pub RecoveryTakesKeptMaps : Type 0
RecoveryTakesKeptMaps = (size : Size) (meant : Reads) (pair : KeptPair) (m : DefectMap)
    → SafeMaps meant pair → MayBeTaken size meant m → IsKept pair m

-- where the maps are safe, the slot that is not worn carries no stale number
abbrev pub OneSlotIsWorn : Type 0
OneSlotIsWorn = (meant : Reads) (pair : KeptPair) (safe : SafeMaps meant pair) (copy index : ℕ) (p : Payload)
    → HasRecord meant (1 - safe.worn) copy index p → Belongs pair index p

-- where a map is present, recovery takes no other, number and slot included
abbrev pub RecoveryTakesThePresentMap : Type 0
RecoveryTakesThePresentMap = (size : Size) (meant : Reads) (m taken : DefectMap)
    → IsPresent meant m → IsValidMap m → MayBeTaken size meant taken
    → AreOneMap taken m × (taken.number ≡ m.number) × (taken.slot ≡ m.slot)

-- where a map is present and in use, the rule takes it from what is meant
abbrev pub PresentMapsAreTaken : Type 0
PresentMapsAreTaken = (meant : Reads) (m : DefectMap)
    → IsPresent meant m → IsValidMap m → IsState m.state → IsTaken m.size meant m

-- and recovery may take it, where its number is below 2^63
abbrev pub PresentMapsMayBeTaken : Type 0
PresentMapsMayBeTaken = (meant : Reads) (m : DefectMap)
    → IsPresent meant m → IsValidMap m → IsState m.state → m.number < 2 ^ 63 → MayBeTaken m.size meant m

-- recovery takes no number from 2^63 up
abbrev pub TakenNumbersAreSmall : Type 0
TakenNumbersAreSmall = (size : Size) (meant : Reads) (m : DefectMap) → MayBeTaken size meant m → m.number < 2 ^ 63

-- a map that may be taken has a number that is meant: what no meant number is above, it is not above either
abbrev pub TakenNumbersAreMeant : Type 0
TakenNumbersAreMeant = (size : Size) (meant : Reads) (m : DefectMap) (number : ℕ)
    → MayBeTaken size meant m → NumbersUpTo meant number → m.number ≤ number

-- a write of a record of a map, whole or cut off, brings no greater number than the map's
abbrev pub WritesKeepNumbers : Type 0
WritesKeepNumbers = (meant after : Reads) (m : DefectMap) (copy index number : ℕ) → NumbersUpTo meant number → m.number ≤ number
    → IsLeftTorn (record_sector m.slot copy index).0 (map_record m copy index) meant after → NumbersUpTo after number

-- a present map is safe in each pair that keeps it, whatever is kept beside it
abbrev pub PresentMapsAreSafe : Type 0
PresentMapsAreSafe = (meant : Reads) (pair : KeptPair) (m : DefectMap)
    → IsPresent meant m → IsKept pair m → AreValid pair → SafeMaps meant pair

-- a pair may gain a map where it has none for that number
abbrev pub PairsMayGrow : Type 0
PairsMayGrow = (meant : Reads) (pair : KeptPair) (m : DefectMap)
    → SafeMaps meant pair → kept_for pair m.number ≡ None → IsValidMap m → SafeMaps meant (with_map pair m)

-- a commit may begin where a map is present: with the next map kept beside it, that map may be written
abbrev pub CommitsBegin : Type 0
CommitsBegin = (meant : Reads) (m next : DefectMap)
    → IsPresent meant m → IsValidMap m → IsValidMap next → next.number ≡ m.number + 1 → next.slot ≡ 1 - m.slot
    → MayBeWritten meant (with_map (alone m) next) next

-- a recovery may begin with a map that was taken: it may be written to the other slot, with two more as its number
abbrev pub RecoveriesBegin : Type 0
RecoveriesBegin = (size : Size) (meant : Reads) (pair : KeptPair) (m first : DefectMap)
    → SafeMaps meant pair → MayBeTaken size meant m
    → AreOneMap first m → first.number ≡ m.number + 2 → first.slot ≡ 1 - m.slot
    → MayBeWritten meant pair first

-- a recovery goes on: the same map may be written to its own slot, with two more again
abbrev pub RecoveriesGoOn : Type 0
RecoveriesGoOn = (meant : Reads) (pair : KeptPair) (first second : DefectMap)
    → MayBeWritten meant pair first
    → AreOneMap second first → second.number ≡ first.number + 2 → second.slot ≡ 1 - first.slot
    → MayBeWritten meant pair second

-- a write of a record of such a map keeps the maps safe, and the next may follow
abbrev pub WritesKeepMapsSafe : Type 0
WritesKeepMapsSafe = (meant : Reads) (pair : KeptPair) (m : DefectMap) (copy index : ℕ)
    → MayBeWritten meant pair m → MayBeWritten (written m copy index meant) pair m

-- so does one that is cut off, whatever it leaves
abbrev pub TornWritesKeepMapsSafe : Type 0
TornWritesKeepMapsSafe = (meant torn : Reads) (pair : KeptPair) (m : DefectMap) (copy index : ℕ)
    → MayBeWritten meant pair m
    → IsLeftTorn (record_sector m.slot copy index).0 (map_record m copy index) meant torn → SafeMaps torn pair

-- a write of the next record of a map leaves those before it, and one more stands
abbrev pub RecordsStand : Type 0
RecordsStand = (meant : Reads) (m : DefectMap) (copy index : ℕ) → copy < 2 → index < 4
    → StandsTo meant m (4 * copy + index) → StandsTo (written m copy index meant) m (4 * copy + index + 1)

-- and it leaves the records of a map in the other slot
abbrev pub OtherSlotsStand : Type 0
OtherSlotsStand = (meant : Reads) (m other : DefectMap) (copy index count : ℕ)
    → m.slot < 2 → other.slot ≡ 1 - m.slot → copy < 2 → index < 4
    → StandsTo meant other count → StandsTo (written m copy index meant) other count

-- a map is present when it is written after an older one, each whole and to a slot of its own: so a factory's second
abbrev pub WrittenMapsArePresent : Type 0
WrittenMapsArePresent = (meant : Reads) (m older : DefectMap)
    → m.slot < 2 → older.slot ≡ 1 - m.slot → older.number < m.number
    → IsPresent (written_to m 8 (written_to older 8 meant)) m

-- a present map alone is safe: so a commit or a recovery may end
abbrev pub PresentMapsAreSafeAlone : Type 0
PresentMapsAreSafeAlone = (meant : Reads) (m : DefectMap) → IsPresent meant m → IsValidMap m → SafeMaps meant (alone m)

-- a commit, from one present map to the next: safe at each moment
abbrev pub CommitsStaySafe : Type 0
CommitsStaySafe = (meant : Reads) (m next : DefectMap)
    → IsPresent meant m → IsValidMap m → IsValidMap next → next.number ≡ m.number + 1 → next.slot ≡ 1 - m.slot
    → ((count : ℕ) → count ≤ 8 → MayBeWritten (written_to next count meant) (with_map (alone m) next) next)
    × IsPresent (written_to next 8 meant) next

-- a recovery, from a map that was taken to that map present: safe at each moment
abbrev pub RecoveriesStaySafe : Type 0
RecoveriesStaySafe = (size : Size) (meant : Reads) (pair : KeptPair) (m first second : DefectMap)
    → SafeMaps meant pair → MayBeTaken size meant m
    → AreOneMap first m → first.number ≡ m.number + 2 → first.slot ≡ 1 - m.slot
    → AreOneMap second first → second.number ≡ first.number + 2 → second.slot ≡ 1 - first.slot
    → ((count : ℕ) → count ≤ 8 → MayBeWritten (written_to first count meant) pair first)
    × ((count : ℕ) → count ≤ 8 → MayBeWritten (written_to second count (written_to first 8 meant)) pair second)
    × IsPresent (written_to second 8 (written_to first 8 meant)) second

-- only what is meant on the sixteen sectors of the maps counts: where it is the same, all this is
abbrev pub SafetyIsByPlace : Type 0
SafetyIsByPlace = (meant other : Reads) → ((p : ℕ) → p < 16 → meant p ≡ other p)
    → ((pair : KeptPair) → SafeMaps meant pair → SafeMaps other pair)
    × ((pair : KeptPair) (m : DefectMap) → MayBeWritten meant pair m → MayBeWritten other pair m)
    × ((m : DefectMap) → IsPresent meant m → IsPresent other m)
    × ((m : DefectMap) (count : ℕ) → m.slot < 2 → StandsTo meant m count → StandsTo other m count)

-- and the numbers are
abbrev pub NumbersAreByPlace : Type 0
NumbersAreByPlace = (meant other : Reads) → ((p : ℕ) → p < 16 → meant p ≡ other p)
    → (number : ℕ) → NumbersUpTo meant number → NumbersUpTo other number

-- the sixteen records have sectors of their own
abbrev pub RecordsHaveOwnSectors : Type 0
RecordsHaveOwnSectors = (slot copy index t c i : ℕ) → copy < 2 → index < 4 → c < 2 → i < 4
    → record_sector slot copy index ≡ record_sector t c i → (slot ≡ t) × (copy ≡ c) × (index ≡ i)
