-- What is meant on the sectors of the maps, and where it is so that recovery never takes a map that is not kept.
use Rattle.std.specs.Prelude.{◌≡◌, ℕ, zero, suc, ◌+◌, ◌-◌, ◌*◌, ◌/◌, ◌%◌, ◌<◌, ◌≤◌, ◌==◌, ◌⊎◌, if◌then◌else◌, Option, Some, None}
use Rattle.disk_base.specs.At.{put_at}
use Rattle.disk_base.specs.declared.payload.Payload.{Payload}
use Rattle.geometry_map.specs.declared.size.Size.{Size}
use Rattle.geometry_map.specs.DefectMap.{DefectMap, IsValidMap}
use Rattle.map_generations.specs.MapRecord.{record_sector, map_record}
use Rattle.map_generations.specs.Laws.{AreAlike}
use Rattle.map_generations.specs.Recovery.{Reads, counted, Carries, IsTaken}

-- each sector of the maps reads as what is meant there, or as nothing
abbrev pub AreReadFrom : Reads → Reads → Type 0
AreReadFrom meant reads = (p : ℕ) → p < 16 → (reads p ≡ meant p) ⊎ (reads p ≡ None)

-- the maps that recovery may take over what is meant, whichever sectors can be read
pub record MayBeTaken (size : Size) (meant : Reads) (m : DefectMap) : Type 0 where
  pub reads : Reads
  pub read : AreReadFrom meant reads
  pub taken : IsTaken size (counted reads) m

-- the maps that are kept: one or none for the even numbers, and one or none for the odd ones
pub record KeptPair : Type 0 where
  pub even : Option DefectMap
  pub odd : Option DefectMap

-- the map that is kept for a number
abbrev pub kept_for : KeptPair → ℕ → Option DefectMap
kept_for pair number = if number % 2 == 0 then pair.even else pair.odd

-- the pair with a map in the place for its number
abbrev pub with_map : KeptPair → DefectMap → KeptPair
with_map pair m =
    if m.number % 2 == 0 then record { even = Some m; odd = pair.odd } else record { even = pair.even; odd = Some m }

-- a map alone
abbrev pub alone : DefectMap → KeptPair
alone m = with_map (record { even = None; odd = None }) m

-- the maps that are kept are valid
abbrev pub AreValid : KeptPair → Type 0
AreValid pair = (number : ℕ) (m : DefectMap) → kept_for pair number ≡ Some m → IsValidMap m

-- they are one map, number and slot aside
pub record AreOneMap (m n : DefectMap) : Type 0 where
  pub alike : AreAlike m n
  pub state : m.state ≡ n.state

-- a map is kept: the one that is kept for its number is this map
pub record IsKept (pair : KeptPair) (m : DefectMap) : Type 0 where
  pub map : DefectMap
  pub for_number : kept_for pair m.number ≡ Some map
  pub one : AreOneMap m map

-- a payload is meant on a sector of a slot, and is a record there
pub record HasRecord (meant : Reads) (slot copy index : ℕ) (p : Payload) : Type 0 where
  pub a_slot : slot < 2
  pub a_copy : copy < 2
  pub an_index : index < 4
  pub there : meant (record_sector slot copy index).0 ≡ Some p
  pub kind : p.kind ≡ 3
  pub own_index : p.index ≡ index

-- a record belongs to the pair: it is, with its number, a record of the map that is kept for that number
pub record Belongs (pair : KeptPair) (index : ℕ) (p : Payload) : Type 0 where
  pub map : DefectMap
  pub for_number : kept_for pair p.address ≡ Some map
  pub carries : Carries map index p

-- stale numbers are below a number: each record that does not belong has a smaller one
abbrev pub StaleAreBelow : Reads → KeptPair → ℕ → Type 0
StaleAreBelow meant pair number = (slot copy index : ℕ) (p : Payload)
    → HasRecord meant slot copy index p → (Belongs pair index p → ⊥) → p.address < number

-- the maps are safe: one slot alone is worn by stale numbers, and these are below each number of the other slot
pub record SafeMaps (meant : Reads) (pair : KeptPair) : Type 0 where
  pub valid : AreValid pair
  pub worn : ℕ
  pub a_slot : worn < 2
  pub below : (copy index : ℕ) (p : Payload) → HasRecord meant (1 - worn) copy index p → StaleAreBelow meant pair p.address

-- the first records of a map stand in its slot, in the order in which they are written
abbrev pub StandsTo : Reads → DefectMap → ℕ → Type 0
StandsTo meant m count = (copy index : ℕ) → copy < 2 → index < 4 → 4 * copy + index < count
    → meant (record_sector m.slot copy index).0 ≡ Some (map_record m copy index)

-- a map is present: it stands whole in its slot, and one with a smaller number stands whole in the other
pub record IsPresent (meant : Reads) (m : DefectMap) : Type 0 where
  pub a_slot : m.slot < 2
  pub whole : StandsTo meant m 8
  pub older : DefectMap
  pub behind : older.slot ≡ 1 - m.slot
  pub smaller : older.number < m.number
  pub older_whole : StandsTo meant older 8

-- a map may be written, one record or all: the maps are safe, and it is a kept one with a number above all stale ones
pub record MayBeWritten (meant : Reads) (pair : KeptPair) (m : DefectMap) : Type 0 where
  pub a_slot : m.slot < 2
  pub kept : IsKept pair m
  pub safe : SafeMaps meant pair
  pub above : StaleAreBelow meant pair m.number

-- what is meant after the write of a record
abbrev pub written : DefectMap → ℕ → ℕ → Reads → Reads
written m copy index meant = put_at (record_sector m.slot copy index).0 (Some (map_record m copy index)) meant

-- what is meant after so many records of a map are written, copy 0 first
abbrev pub written_to : DefectMap → ℕ → Reads → Reads
written_to m zero meant = meant
written_to m (suc count) meant = written m (count / 4) (count % 4) (written_to m count meant)

-- what may be meant after a write that was cut off: what was there before, the new payload, or nothing
abbrev pub IsLeftTorn : ℕ → Payload → Reads → Reads → Type 0
IsLeftTorn p payload before after =
    (after ≡ before) ⊎ ((after ≡ put_at p (Some payload) before) ⊎ (after ≡ put_at p None before))

-- each record that is meant has a number of at most this one
abbrev pub NumbersUpTo : Reads → ℕ → Type 0
NumbersUpTo meant number = (slot copy index : ℕ) (p : Payload) → HasRecord meant slot copy index p → p.address ≤ number
