-- What holds of every valid map.
use Rattle.std.specs.Prelude.{◌≡◌, ◌≢◌, ◌+◌, ◌<◌, ◌≤◌, List, [], ◌∷◌, ◌++◌, length, All, AllPairs, Some}
use Rattle.disk_base.specs.declared.address.Psn.{Psn}
use Rattle.disk_base.specs.declared.address.Lba.{Lba}
use Rattle.geometry_map.specs.declared.limits.TheConstants.{PAIRS_MAX}
use Rattle.geometry_map.specs.declared.pair.Pair.{Pair}
use Rattle.geometry_map.specs.Size.{total_of, capacity_of}
use Rattle.geometry_map.specs.DefectMap.{DefectMap, IsValidMap, IsGrownList, HaveOwnSpares, place_of, next_spare_of}
use Rattle.geometry_map.specs.Chains.{IsChain, MovesOne, IsFreeSpare, IsNextSpare}

-- two blocks are never at one sector
abbrev pub BlocksHaveOwnSectors : Type 0
BlocksHaveOwnSectors = (m : DefectMap) → IsValidMap m → (a b : Lba) → a.0 < capacity_of m.size → b.0 < capacity_of m.size
    → place_of m a ≡ place_of m b → a ≡ b

-- a block is at a sector of the drive, and at none of the map's
abbrev pub BlocksLieOnUserSectors : Type 0
BlocksLieOnUserSectors = (m : DefectMap) → IsValidMap m → (b : Lba) → b.0 < capacity_of m.size
    → (16 ≤ (place_of m b).0) × ((place_of m b).0 < total_of m.size)

-- a spare that is given is at no block's place, whatever was taken
abbrev pub GivenSparesAreFree : Type 0
GivenSparesAreFree = (m : DefectMap) → IsValidMap m → (taken : List Psn) (p : Psn) → next_spare_of m taken ≡ Some p
    → (b : Lba) → b.0 < capacity_of m.size → place_of m b ≢ p

-- a spare that is given makes a pair, with any user sector as old, that the map's list takes
abbrev pub GivenSparesMakePairs : Type 0
GivenSparesMakePairs = (m : DefectMap) → IsValidMap m → (taken : List Psn) (old p : Psn) → 16 ≤ old.0 → old.0 < total_of m.size
    → next_spare_of m taken ≡ Some p → IsGrownList m.size m.primary (m.grown ++ record { old = old; new = p } ∷ [])

-- a spare that is given is free and not taken, and within what a list may have
abbrev pub GivenSparesAreNext : Type 0
GivenSparesAreNext = (m : DefectMap) (taken : List Psn) (p : Psn) → next_spare_of m taken ≡ Some p → IsNextSpare m taken p

-- a free spare is at no block's place, whatever is taken
abbrev pub FreeSparesAreNoPlaces : Type 0
FreeSparesAreNoPlaces = (m : DefectMap) → IsValidMap m → (p : Psn) → IsFreeSpare m p → (b : Lba) → b.0 < capacity_of m.size → place_of m b ≢ p

-- a chain from the place of a block moves that block to its end and no other
abbrev pub ChainsMoveOneBlock : Type 0
ChainsMoveOneBlock = (m : DefectMap) (b : Lba) (pairs : List Pair) → IsChain (place_of m b) pairs → MovesOne m b pairs

-- the map's list takes a chain from a user sector to free spares, each another, while it has room for it
abbrev pub ChainsOfFreeSparesFit : Type 0
ChainsOfFreeSparesFit = (m : DefectMap) → IsValidMap m → (at : Psn) → 16 ≤ at.0 → at.0 < total_of m.size
    → (pairs : List Pair) → IsChain at pairs → All (λ pair. IsFreeSpare m pair.new) pairs → AllPairs HaveOwnSpares pairs
    → length m.grown + length pairs ≤ PAIRS_MAX → IsGrownList m.size m.primary (m.grown ++ pairs)
