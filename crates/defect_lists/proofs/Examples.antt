-- Replies for a drive of 16 cylinders with 4 heads and 16 sectors on a track.
use Rattle.std.proofs.Common.{◌≡◌, ℕ, [], ◌∷◌, refl, true, false, Bool}
use Rattle.geometry_map.specs.declared.size.Size.{Size}
use Rattle.geometry_map.specs.declared.pair.Pair.{Pair}
use Rattle.geometry_map.specs.Limits.{IsWithinLimits}
use Rattle.geometry_map.specs.DefectMap.{DefectMap, sector, factory_map, with_pairs}
use Rattle.defect_lists.specs.declared.reply.DefectRequest.{DefectRequest}
use Rattle.defect_lists.specs.DefectData.{ascending, descriptor, defect_data}

module _ (limits : IsWithinLimits 16 4 16 96) where
  abbrev drive : Size
  drive = record { cylinders = 16; heads = 4; sectors = 16; reserved = 96; within_limits = limits }

  abbrev pair : ℕ → ℕ → Pair
  pair old new = record { old = sector old; new = sector new }

  abbrev asking : Bool → Bool → ℕ → DefectRequest
  asking primary grown allocation = record { primary = primary; grown = grown; format = 5; allocation = allocation }

  -- sector 20 is a defect of the factory, and block 0 was moved from sector 16 over a bad spare
  abbrev defects : DefectMap
  defects = with_pairs (factory_map drive (sector 20 ∷ [])) (pair 16 929 ∷ pair 929 930 ∷ [])

  last_sector : descriptor drive 1023 ≡ 0 ∷ 0 ∷ 15 ∷ 3 ∷ 0 ∷ 0 ∷ 0 ∷ 15 ∷ []
  last_sector = refl

  no_defects : defect_data (factory_map drive []) (asking true true 255) ≡ 0 ∷ 29 ∷ 0 ∷ 0 ∷ []
  no_defects = refl

  -- both lists together, the bad spare among them: (0, 1, 0), (0, 1, 4) and (14, 2, 1)
  both_lists : defect_data defects (asking true true 255)
      ≡ 0 ∷ 29 ∷ 0 ∷ 24 ∷ 0 ∷ 0 ∷ 0 ∷ 1 ∷ 0 ∷ 0 ∷ 0 ∷ 0 ∷ 0 ∷ 0 ∷ 0 ∷ 1 ∷ 0 ∷ 0 ∷ 0 ∷ 4 ∷ 0 ∷ 0 ∷ 14 ∷ 2 ∷ 0 ∷ 0 ∷ 0 ∷ 1 ∷ []
  both_lists = refl

  primary_list : defect_data defects (asking true false 255) ≡ 0 ∷ 21 ∷ 0 ∷ 8 ∷ 0 ∷ 0 ∷ 0 ∷ 1 ∷ 0 ∷ 0 ∷ 0 ∷ 4 ∷ []
  primary_list = refl

  neither_list : defect_data defects (asking false false 255) ≡ 0 ∷ 5 ∷ 0 ∷ 0 ∷ []
  neither_list = refl

  -- an allocation length cuts the data, and the header still says how long they are
  cut_short : defect_data defects (asking false true 5) ≡ 0 ∷ 13 ∷ 0 ∷ 16 ∷ 0 ∷ []
  cut_short = refl

-- a number that is there twice stays twice
twice : ascending (3 ∷ 1 ∷ 3 ∷ 2 ∷ []) ≡ 1 ∷ 2 ∷ 3 ∷ 3 ∷ []
twice = refl

not_once : ascending (3 ∷ 3 ∷ []) ≡ 3 ∷ [] → ⊥
not_once e = cc
