-- The map that a list of operations has, the maps that recovery may take after it, and what is written of a map.
use Rattle.std.specs.Prelude.{◌+◌, ◌-◌, List, [], ◌∷◌}
use Rattle.disk_base.specs.declared.payload.Payload.{Payload}
use Rattle.platter_model.specs.declared.op.Op.{Op}
use Rattle.platter_model.specs.Sector.{meant}
use Rattle.geometry_map.specs.declared.size.Size.{Size}
use Rattle.geometry_map.specs.declared.pair.Pair.{Pair}
use Rattle.geometry_map.specs.DefectMap.{DefectMap, sector, with_pairs}
use Rattle.map_generations.specs.MapRecord.{map_record}
use Rattle.map_generations.specs.Recovery.{Reads, IsTaken}
use Rattle.map_generations.specs.SafeMaps.{MayBeTaken}

-- what operations mean each sector to carry
abbrev pub meant_on : List Op → Reads
meant_on ops p = meant (sector p) ops

-- the map that operations have: the one that the rule takes where each sector of the maps reads as what is meant there
abbrev pub IsMapOf : Size → List Op → DefectMap → Type 0
IsMapOf size ops m = IsTaken size (meant_on ops) m

-- recovery may take a map after operations: where each sector of the maps reads as what is meant there, or as nothing
abbrev pub MayBeRecovered : Size → List Op → DefectMap → Type 0
MayBeRecovered size ops m = MayBeTaken size (meant_on ops) m

-- the eight records of a map, in the order in which they are written: copy 0 first, each copy by index
unfoldable pub records_of : DefectMap → List Payload
records_of m =
    map_record m 0 0 ∷ map_record m 0 1 ∷ map_record m 0 2 ∷ map_record m 0 3
    ∷ map_record m 1 0 ∷ map_record m 1 1 ∷ map_record m 1 2 ∷ map_record m 1 3 ∷ []

-- the map that a commit of pairs writes: with them, the next number, in the other slot
abbrev pub next_map : DefectMap → List Pair → DefectMap
next_map m pairs = record (with_pairs m pairs) { number = m.number + 1; slot = 1 - m.slot }
