-- Records of a map of a drive of 16 cylinders with 4 heads and 16 sectors on a track.
use Rattle.std.proofs.Common.{◌≡◌, ℕ, [], ◌∷◌, take, replicate, refl}
use Rattle.geometry_map.specs.declared.size.Size.{Size}
use Rattle.geometry_map.specs.declared.pair.Pair.{Pair}
use Rattle.geometry_map.specs.Limits.{IsWithinLimits}
use Rattle.geometry_map.specs.DefectMap.{DefectMap, sector, map_of}
use Rattle.map_generations.specs.MapRecord.{record_bytes, record_sector}

module _ (limits : IsWithinLimits 16 4 16 96) where
  abbrev drive : Size
  drive = record { cylinders = 16; heads = 4; sectors = 16; reserved = 96; within_limits = limits }

  abbrev pair : ℕ → ℕ → Pair
  pair old new = record { old = sector old; new = sector new }

  -- sector 20 is a defect of the factory, and sector 16 was moved over a bad spare
  abbrev defects : DefectMap
  defects = map_of drive (sector 20 ∷ []) (pair 16 929 ∷ pair 929 930 ∷ []) 3 1 0

  primary_list : take 8 (record_bytes defects 0) ≡ 0 ∷ 0 ∷ 0 ∷ 20 ∷ 0 ∷ 0 ∷ 0 ∷ 0 ∷ []
  primary_list = refl

  grown_list : take 20 (record_bytes defects 1)
      ≡ 0 ∷ 0 ∷ 0 ∷ 16 ∷ 0 ∷ 0 ∷ 3 ∷ 161 ∷ 0 ∷ 0 ∷ 3 ∷ 161 ∷ 0 ∷ 0 ∷ 3 ∷ 162 ∷ 0 ∷ 0 ∷ 0 ∷ 0 ∷ []
  grown_list = refl

  no_later_pairs : record_bytes defects 2 ≡ replicate 512 0
  no_later_pairs = refl

  -- sixteen cylinders, four heads, sixteen sectors, 96 kept back, one primary defect and two pairs
  the_measures : record_bytes defects 3 ≡ 0 ∷ 16 ∷ 4 ∷ 16 ∷ 0 ∷ 96 ∷ 0 ∷ 1 ∷ 0 ∷ 2 ∷ replicate 502 0
  the_measures = refl

-- the first sector of the first slot, and the last of the second
first_of_all : record_sector 0 0 0 ≡ sector 0
first_of_all = refl

last_of_all : record_sector 1 1 3 ≡ sector 15
last_of_all = refl
