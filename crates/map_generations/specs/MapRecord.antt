-- The records of a map: what the sectors that hold it carry, field by field, each number high byte first.
use Rattle.std.specs.Prelude.{◌≡◌, ℕ, ◌+◌, ◌-◌, ◌*◌, ◌==◌, if◌then◌else◌, List, ◌∷◌, ◌++◌, length, take, drop, replicate}
use Rattle.std.specs.List.{flat_map}
use Rattle.std.specs.Int.{w16, w32, to_be_bytes}
use Rattle.disk_base.specs.declared.address.Psn.{Psn}
use Rattle.disk_base.specs.declared.payload.Payload.{Payload}
use Rattle.disk_base.specs.Payload.{record_payload}
use Rattle.geometry_map.specs.declared.pair.Pair.{Pair}
use Rattle.geometry_map.specs.DefectMap.{DefectMap, sector}
use Rattle.map_generations.specs.declared.record.TheConstants.{IN_USE}

-- the states that a map may have: it is in use
abbrev pub IsState : ℕ → Type 0
IsState state = state ≡ IN_USE

-- a sector's number in four bytes
abbrev pub sector_bytes : Psn → List ℕ
sector_bytes p = to_be_bytes w32 p.0

-- a pair in eight: the defect, and the spare that stands for it
abbrev pub pair_bytes : Pair → List ℕ
pair_bytes pair = sector_bytes pair.old ++ sector_bytes pair.new

-- the measures of the drive, cylinders in two bytes, heads and sectors of a track in one each, the sectors kept back in two;
-- and the lengths of both lists, in two bytes each
abbrev pub measures : DefectMap → List ℕ
measures m =
    to_be_bytes w16 m.size.cylinders ++ (m.size.heads ∷ m.size.sectors ∷ (to_be_bytes w16 m.size.reserved
    ++ (to_be_bytes w16 (length m.primary) ++ to_be_bytes w16 (length m.grown))))

-- bytes with zeros after them, up to the length of a block
abbrev pub with_zeros : List ℕ → List ℕ
with_zeros bytes = bytes ++ replicate (512 - length bytes) 0

-- the data of a record by its index: the primary list, pairs 0 to 63 of the grown list, the later ones, and the measures
abbrev pub record_bytes : DefectMap → ℕ → List ℕ
record_bytes m index =
    if index == 0 then with_zeros (flat_map sector_bytes m.primary)
    else (if index == 1 then with_zeros (flat_map pair_bytes (take 64 m.grown))
    else (if index == 2 then with_zeros (flat_map pair_bytes (drop 64 m.grown))
    else with_zeros (measures m)))

-- the sector of a record: a slot has two copies of four records, one behind the other
abbrev pub record_sector : ℕ → ℕ → ℕ → Psn
record_sector slot copy index = sector (8 * slot + 4 * copy + index)

-- what that sector carries: a record of the map's number and state, of version 1
abbrev pub map_record : DefectMap → ℕ → ℕ → Payload
map_record m copy index =
    record_payload (record_sector m.slot copy index) index m.state 1 m.number (record_bytes m index)
