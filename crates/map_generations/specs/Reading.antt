-- What the data of a map's records say, read back; and what recovery finds on its way.
use Rattle.std.specs.Prelude.{◌≡◌, ℕ, zero, suc, nat_lt, if◌then◌else◌, List, [], ◌∷◌, take, drop, Option, Some, None, MatchOption}
use Rattle.std.specs.Int.{w32, from_be_bytes}
use Rattle.disk_base.specs.declared.address.Psn.{Psn}
use Rattle.disk_base.specs.declared.payload.Payload.{Payload}
use Rattle.geometry_map.specs.declared.size.Size.{Size}
use Rattle.geometry_map.specs.declared.pair.Pair.{Pair}
use Rattle.geometry_map.specs.DefectMap.{DefectMap, IsValidMap, sector}
use Rattle.map_generations.specs.declared.recovery.Decision.{Decision}
use Rattle.map_generations.specs.declared.recovery.Decision.TheVariants.{Take, Corrupt}
use Rattle.map_generations.specs.MapRecord.{IsState}
use Rattle.map_generations.specs.Recovery.{Reads, Carries, HasMap, IsLatest, LastIsOlder}

-- the sector whose number stands in front
abbrev pub sector_in : List ℕ → Psn
sector_in bytes = sector (from_be_bytes w32 (take 4 bytes))

-- the pair that stands in front
abbrev pub pair_in : List ℕ → Pair
pair_in bytes = record { old = sector_in bytes; new = sector_in (drop 4 bytes) }

-- as many sectors as are asked for, from bytes
abbrev pub sectors_in : ℕ → List ℕ → List Psn
sectors_in zero bytes = []
sectors_in (suc n) bytes = sector_in bytes ∷ sectors_in n (drop 4 bytes)

-- as many pairs
abbrev pub pairs_in : ℕ → List ℕ → List Pair
pairs_in zero bytes = []
pairs_in (suc n) bytes = pair_in bytes ∷ pairs_in n (drop 8 bytes)

-- a valid map of this drive, of this number and in this slot, which is in use
pub record IsNumbered (size : Size) (slot number : ℕ) (m : DefectMap) : Type 0 where
  pub valid : IsValidMap m
  pub of_drive : m.size ≡ size
  pub of_slot : m.slot ≡ slot
  pub of_number : m.number ≡ number
  pub in_use : IsState m.state

-- four payloads carry the records of a map
pub record AreRecordsOf (m : DefectMap) (sectors pairs later_pairs measures : Payload) : Type 0 where
  pub of_sectors : Carries m 0 sectors
  pub of_pairs : Carries m 1 pairs
  pub of_later_pairs : Carries m 2 later_pairs
  pub of_measures : Carries m 3 measures

-- the map of the greater number, or the first where both have the same
abbrev pub later_map : DefectMap → DefectMap → DefectMap
later_map first second = if nat_lt first.number second.number then second else first

-- the same, where either may be missing
abbrev pub later_of : Option DefectMap → Option DefectMap → Option DefectMap
later_of None second = second
later_of (Some first) None = Some first
later_of (Some first) (Some second) = Some (later_map first second)

-- the latest map of a slot, or nothing where it has none
abbrev pub IsLatestOf : Size → Reads → ℕ → Option DefectMap → Type 0
IsLatestOf size reads slot found = MatchOption found (HasMap size reads slot → ⊥) (λ m. (m.slot ≡ slot) × IsLatest size reads m)

-- what the latest map of one slot comes to, where the other slot is broken
abbrev pub IsDecidedAlone : Reads → ℕ → DefectMap → Decision → Type 0
IsDecidedAlone reads broken m (Take taken) = (taken ≡ m) × LastIsOlder reads broken m.number
IsDecidedAlone reads broken m (Corrupt slot) = (slot ≡ broken) × (LastIsOlder reads broken m.number → ⊥)
