-- Which map recovery takes from what the sectors of the map read as, and when the map is corrupt.
use Rattle.std.specs.Prelude.{◌≡◌, ℕ, ◌-◌, ◌^◌, ◌<◌, ◌≤◌, ◌==◌, ◌&&◌, ◌⊎◌, nat_lt, Bool, if◌then◌else◌, List, slice_index_or, Option, Some, None}
use Rattle.disk_base.specs.declared.payload.Payload.{Payload}
use Rattle.geometry_map.specs.declared.size.Size.{Size}
use Rattle.geometry_map.specs.DefectMap.{DefectMap, IsValidMap}
use Rattle.map_generations.specs.declared.recovery.Decision.{Decision}
use Rattle.map_generations.specs.declared.recovery.Decision.TheVariants.{Take, Corrupt}
use Rattle.map_generations.specs.MapRecord.{record_bytes, record_sector, IsState}

-- what each sector reads as: a payload or nothing
abbrev pub Reads : Type 0
Reads = ℕ → Option Payload

-- the reads in a list, from sector 0 on; no sector behind them reads as anything
abbrev pub reads_of : List (Option Payload) → Reads
reads_of list p = slice_index_or list p None

-- a payload with a number below 2^63
abbrev pub as_counted : Option Payload → Option Payload
as_counted None = None
as_counted (Some p) = if nat_lt p.address (2 ^ 63) then Some p else None

-- what the reads come to when the power comes on: a record of a number from 2^63 up doesn't count
abbrev pub counted : Reads → Reads
counted reads p = as_counted (reads p)

-- whether a payload is a record of this index, of a map of this number
abbrev pub is_record : ℕ → ℕ → Payload → Bool
is_record index number p = (p.kind == 3) && ((p.index == index) && (p.address == number))

-- what a sector reads as, where it is such a record
abbrev pub as_record : ℕ → ℕ → Option Payload → Option Payload
as_record index number None = None
as_record index number (Some p) = if is_record index number p then Some p else None

-- the first, or the second where there is no first
abbrev pub first_or : Option Payload → Option Payload → Option Payload
first_or None second = second
first_or (Some p) second = Some p

-- the record of an index and a number in a slot: that of copy 0, or of copy 1 where copy 0 has none
abbrev pub record_in : Reads → ℕ → ℕ → ℕ → Option Payload
record_in reads slot number index =
    first_or (as_record index number (reads (record_sector slot 0 index).0)) (as_record index number (reads (record_sector slot 1 index).0))

-- a payload carries a map's record of this index
pub record Carries (m : DefectMap) (index : ℕ) (p : Payload) : Type 0 where
  pub version : p.version ≡ 1
  pub state : p.state ≡ m.state
  pub bytes : p.block ≡ record_bytes m index

-- the map's slot is complete for its number: it has each record of that number, and they form this map, which is one of this drive
pub record IsComplete (size : Size) (reads : Reads) (m : DefectMap) : Type 0 where
  pub valid : IsValidMap m
  pub of_drive : m.size ≡ size
  pub in_use : IsState m.state
  pub records : (index : ℕ) → index < 4 → (p : Payload) × (record_in reads m.slot m.number index ≡ Some p) × Carries m index p

-- a slot is complete for some number
abbrev pub HasMap : Size → Reads → ℕ → Type 0
HasMap size reads slot = (m : DefectMap) × (m.slot ≡ slot) × IsComplete size reads m

-- the map is the one of the greatest number that its slot is complete for
pub record IsLatest (size : Size) (reads : Reads) (m : DefectMap) : Type 0 where
  pub complete : IsComplete size reads m
  pub greatest : (n : DefectMap) → IsComplete size reads n → n.slot ≡ m.slot → n.number ≤ m.number

-- the last sector that a slot is written at reads as a record with a smaller number
abbrev pub LastIsOlder : Reads → ℕ → ℕ → Type 0
LastIsOlder reads slot number = (older : ℕ) × (older < number) × (p : Payload)
    × (as_record 3 older (reads (record_sector slot 1 3).0) ≡ Some p)

-- the other slot has no later map than this one; of two maps of the same number slot 0 has the one that is taken
abbrev pub IsNoOlder : Size → Reads → DefectMap → Type 0
IsNoOlder size reads m = (n : DefectMap) → IsComplete size reads n → n.slot ≡ 1 - m.slot
    → (n.number < m.number) ⊎ ((n.number ≡ m.number) × (m.slot ≡ 0))

-- recovery takes a map: the latest of its slot, and no older than what the other slot has; where that has none, its last
-- sector tells that no write of a later map was through there
pub record IsTaken (size : Size) (reads : Reads) (m : DefectMap) : Type 0 where
  pub slot : m.slot < 2
  pub latest : IsLatest size reads m
  pub no_older : IsNoOlder size reads m
  pub other : HasMap size reads (1 - m.slot) ⊎ LastIsOlder reads (1 - m.slot) m.number

-- the map is corrupt, and this slot isn't complete: slot 0 where neither is, and otherwise the one whose last sector doesn't
-- tell that the other slot has the later map
pub record IsCorrupt (size : Size) (reads : Reads) (slot : ℕ) : Type 0 where
  pub of_two : slot < 2
  pub broken : HasMap size reads slot → ⊥
  pub other : ((slot ≡ 0) × (HasMap size reads 1 → ⊥))
      ⊎ ((m : DefectMap) × (m.slot ≡ 1 - slot) × IsLatest size reads m × (LastIsOlder reads slot m.number → ⊥))

-- what recovery decides
abbrev pub IsDecided : Size → Reads → Decision → Type 0
IsDecided size reads (Take m) = IsTaken size reads m
IsDecided size reads (Corrupt slot) = IsCorrupt size reads slot
