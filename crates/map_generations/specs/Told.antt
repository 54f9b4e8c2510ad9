-- The map that the records of a slot tell, whatever they are.
use Rattle.std.specs.Prelude.{◌≡◌, ℕ, ◌+◌, ◌-◌, min, slice_range, List, [], ◌++◌, Option, Some, None}
use Rattle.std.specs.Int.{w16, from_be_bytes}
use Rattle.std.specs.Option.{option_map_or}
use Rattle.disk_base.specs.declared.address.Psn.{Psn}
use Rattle.disk_base.specs.declared.payload.Payload.{Payload}
use Rattle.geometry_map.specs.declared.size.Size.{Size}
use Rattle.geometry_map.specs.declared.pair.Pair.{Pair}
use Rattle.geometry_map.specs.DefectMap.{DefectMap, IsValidMap, map_of}
use Rattle.map_generations.specs.declared.record.TheConstants.{RECORD_PAIRS}
use Rattle.map_generations.specs.MapRecord.{record_sector}
use Rattle.map_generations.specs.Reading.{sectors_in, pairs_in}
use Rattle.map_generations.specs.Recovery.{Reads}
use Rattle.map_generations.specs.SafeMaps.{StandsTo}

-- a payload's data, or none
abbrev pub data_of : Option Payload → List ℕ
data_of None = []
data_of (Some p) = p.block

-- what copy 0 of a slot has under an index
abbrev pub read_told : Reads → ℕ → ℕ → Option Payload
read_told reads slot index = reads (record_sector slot 0 index).0

-- so many sectors of a primary list, by its record
abbrev pub primary_told : Option Payload → ℕ → List Psn
primary_told sectors count = sectors_in count (data_of sectors)

-- so many pairs of a grown list, by its two records
abbrev pub grown_told : Option Payload → Option Payload → ℕ → List Pair
grown_told pairs later_pairs count = pairs_in (min count RECORD_PAIRS) (data_of pairs) ++ pairs_in (count - RECORD_PAIRS) (data_of later_pairs)

-- the length of a list, at its place in the measures
abbrev pub count_told : Option Payload → ℕ → ℕ
count_told measures at = from_be_bytes w16 (slice_range (data_of measures) at (at + 2))

-- the map of a drive of these measures that copy 0 of a slot tells
abbrev pub map_told : Size → Reads → ℕ → DefectMap
map_told size reads slot =
    map_of size
    (primary_told (read_told reads slot 0) (count_told (read_told reads slot 3) 6))
    (grown_told (read_told reads slot 1) (read_told reads slot 2) (count_told (read_told reads slot 3) 8))
    (option_map_or (λ p. p.address) (read_told reads slot 0) 0)
    slot
    (option_map_or (λ p. p.state) (read_told reads slot 0) 0)

-- a valid map that stands whole in its slot is the one that the slot tells
abbrev pub MapsAreTold : Type 0
MapsAreTold = (m : DefectMap) (reads : Reads) → IsValidMap m → StandsTo reads m 8 → map_told m.size reads m.slot ≡ m
