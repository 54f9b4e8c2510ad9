-- What a factory writes.
use Rattle.std.specs.Prelude.{ℕ, List, ◌++◌, map, replicate}
use Rattle.std.specs.List.{range_with_len}
use Rattle.disk_base.specs.declared.address.Lba.{Lba}
use Rattle.disk_base.specs.declared.address.Psn.{Psn}
use Rattle.disk_base.specs.declared.payload.Payload.{Payload}
use Rattle.disk_base.specs.Payload.{user_payload}
use Rattle.geometry_map.specs.declared.size.Size.{Size}
use Rattle.geometry_map.specs.Size.{capacity_of}
use Rattle.geometry_map.specs.DefectMap.{DefectMap, factory_map, place_of}
use Rattle.sector_store.specs.Maps.{records_of}

-- the block of an address
abbrev pub block_at : ℕ → Lba
block_at b = record { 0 = b }

-- a block of zeros at its place
abbrev pub zero_block : DefectMap → ℕ → Payload
zero_block m b = user_payload (place_of m (block_at b)) (block_at b) (replicate 512 0)

-- a block of zeros at the place of each block, ascending
abbrev pub zero_blocks : DefectMap → List Payload
zero_blocks m = map (zero_block m) (range_with_len 0 (capacity_of m.size))

-- the map before the one that a factory leaves: number 1 in slot 0
abbrev pub first_map : Size → List Psn → DefectMap
first_map size primary = record (factory_map size primary) { number = 1; slot = 0 }

-- all that a factory writes: map 1 to slot 0, map 2 to slot 1, and the blocks
abbrev pub factory_payloads : Size → List Psn → List Payload
factory_payloads size primary =
    records_of (first_map size primary) ++ records_of (factory_map size primary) ++ zero_blocks (factory_map size primary)
