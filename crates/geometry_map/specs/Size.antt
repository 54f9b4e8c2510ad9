-- What the measures of a drive say of its sectors.
use Rattle.std.specs.Prelude.{◌≡◌, ℕ, ◌+◌, ◌-◌, ◌*◌, ◌<◌}
use Rattle.geometry_map.specs.declared.size.Size.{Size}

-- the number of sectors
abbrev pub total_of : Size → ℕ
total_of size = size.cylinders * size.heads * size.sectors

-- the number of blocks: the sectors but the sixteen of the map and those kept back
abbrev pub capacity_of : Size → ℕ
capacity_of size = total_of size - 16 - size.reserved

-- these are the measures
pub record HasMeasures (size : Size) (c h s r : ℕ) : Type 0 where
  pub cylinders : size.cylinders ≡ c
  pub heads : size.heads ≡ h
  pub sectors : size.sectors ≡ s
  pub reserved : size.reserved ≡ r

-- the sector of this number is that sector of the track under that head of that cylinder
pub record LiesAt (size : Size) (p cylinder head sector : ℕ) : Type 0 where
  pub number : p ≡ (cylinder * size.heads + head) * size.sectors + sector
  pub on_a_head : head < size.heads
  pub on_a_track : sector < size.sectors
