-- The lists by which a place is found by halving.
use Rattle.std.specs.Prelude.{◌≡◌, ℕ, ◌-◌, ◌<◌, ◌==◌, Bool, not, List, filter, map}
use Rattle.std.specs.List.{enumerate_from, range_with_len}
use Rattle.std.specs.List.Sorted.{IsStrictlyIncreasing}
use Rattle.disk_base.specs.declared.address.Psn.{Psn}
use Rattle.disk_base.specs.declared.address.Lba.{Lba}
use Rattle.geometry_map.specs.declared.pair.Pair.{Pair}
use Rattle.geometry_map.specs.declared.placer.Placer.{Placer}
use Rattle.geometry_map.specs.Size.{capacity_of}
use Rattle.geometry_map.specs.DefectMap.{DefectMap, IsValidMap, slip_place, place_of, moved}

-- the gaps: how many blocks start below each primary defect, its number less 16 and less its place in the list
abbrev pub gaps_of : List Psn → List ℕ
gaps_of primary = map (λ e. e.1.0 - 16 - e.0) (enumerate_from 0 primary)

-- where a block starts and where it is
abbrev pub route_of : DefectMap → ℕ → Pair
route_of m b =
    let block : Lba = record { 0 = b } in
    record { old = slip_place m.size m.primary block; new = place_of m block }

-- whether a block is elsewhere than it starts
abbrev pub is_moved : Pair → Bool
is_moved pair = not (pair.old.0 == pair.new.0)

-- the routes of the blocks that are elsewhere, by block, so ascending by start
abbrev pub remap_of : DefectMap → List Pair
remap_of m = filter is_moved (map (route_of m) (range_with_len 0 (capacity_of m.size)))

-- these are the lists of a valid map, and the number of its blocks
pub record IsPlacerOf (placer : Placer) (m : DefectMap) : Type 0 where
  pub valid : IsValidMap m
  pub gaps : placer.gaps.items ≡ gaps_of m.primary
  pub remap : placer.remap.items ≡ remap_of m
  pub blocks : placer.blocks ≡ capacity_of m.size

-- a block starts at a sector
abbrev pub IsStart : DefectMap → Psn → Type 0
IsStart m p = (b : Lba) × (b.0 < capacity_of m.size) × (slip_place m.size m.primary b ≡ p)

-- a route by one pair: it goes on where it ended at the pair's old
abbrev pub followed : Pair → Pair → Pair
followed pair route = record route { new = moved route.new pair }

-- the routes of a valid map strictly ascend by start
abbrev pub RoutesAscend : Type 0
RoutesAscend = (m : DefectMap) → IsValidMap m → IsStrictlyIncreasing (map (λ route. route.old.0) (remap_of m))
