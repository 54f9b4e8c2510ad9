-- What a contract sees of a map of defects, where the blocks lie by it, and which spares are left.
use Rattle.std.specs.Prelude.{◌≢◌, ℕ, ◌+◌, ◌-◌, ◌<◌, ◌≤◌, ◌==◌, ◌&&◌, ◌||◌, not, nat_lt, Bool, if◌then◌else◌, List, [], ◌∷◌, ◌++◌, length, filter, find, fold, drop, slice_index, IsTrue, All, AllPairs, Option, None}
use Rattle.std.specs.List.{list_any, range_with_len}
use Rattle.std.specs.Option.{option_map}
use Rattle.disk_base.specs.declared.address.Psn.{Psn}
use Rattle.disk_base.specs.declared.address.Lba.{Lba}
use Rattle.geometry_map.specs.declared.limits.TheConstants.{PRIMARY_MAX, PAIRS_MAX}
use Rattle.geometry_map.specs.declared.size.Size.{Size}
use Rattle.geometry_map.specs.declared.pair.Pair.{Pair}
use Rattle.geometry_map.specs.Size.{total_of, capacity_of}

-- the drive's measures, its primary defects, its grown defects in order of making, and the map's number, slot and state
pub record DefectMap : Type 0 where
  pub size : Size
  pub primary : List Psn
  pub grown : List Pair
  pub number : ℕ
  pub slot : ℕ
  pub state : ℕ

-- the map of these parts
abbrev pub map_of : Size → List Psn → List Pair → ℕ → ℕ → ℕ → DefectMap
map_of size primary grown number slot state =
    record { size = size; primary = primary; grown = grown; number = number; slot = slot; state = state }

-- the sector of a number
abbrev pub sector : ℕ → Psn
sector p = record { 0 = p }

-- whether the sector of a number is in a list
abbrev pub is_listed : ℕ → List Psn → Bool
is_listed p sectors = list_any (λ q. q.0 == p) sectors

-- whether it is old or new of a pair
abbrev pub is_in_a_pair : ℕ → List Pair → Bool
is_in_a_pair p pairs = list_any (λ pair. (pair.old.0 == p) || (pair.new.0 == p)) pairs

-- the slip list: the sectors from 16 up that are not primary defects, ascending
abbrev pub slip_list : Size → List Psn → List ℕ
slip_list size primary = filter (λ p. not (is_listed p primary)) (range_with_len 16 (total_of size - 16))

-- where a block starts: block b at the b-th of the slip list, counted from 0
abbrev pub slip_place : Size → List Psn → Lba → Psn
slip_place size primary b = sector (slice_index (slip_list size primary) b.0)

-- the spares: the rest of the slip list
abbrev pub spares : Size → List Psn → List ℕ
spares size primary = drop (capacity_of size) (slip_list size primary)

-- where a block at `at` is by one pair: at new, where it was at old
abbrev pub moved : Psn → Pair → Psn
moved at pair = if at.0 == pair.old.0 then pair.new else at

-- where it is by the pairs in order
abbrev pub through : List Pair → Psn → Psn
through pairs at = fold moved at pairs

-- the place of a block
abbrev pub place_of : DefectMap → Lba → Psn
place_of m b = through m.grown (slip_place m.size m.primary b)

-- whether it is in no pair and not taken
abbrev pub is_free : List Pair → List Psn → ℕ → Bool
is_free pairs taken p = not (is_in_a_pair p pairs) && not (is_listed p taken)

-- whether a sector is in none of the lists
abbrev pub is_open : List Psn → List Pair → List Psn → ℕ → Bool
is_open primary pairs taken p = not (is_listed p primary) && is_free pairs taken p

-- the least spare that is in no pair and not taken, where pairs and taken together are fewer than a list may have
abbrev pub next_spare_of : DefectMap → List Psn → Option Psn
next_spare_of m taken =
    if nat_lt (length m.grown + length taken) PAIRS_MAX
    then option_map sector (find (is_free m.grown taken) (spares m.size m.primary))
    else None

-- each sector is from `low` to below `high`, and above the one before it
abbrev pub AscendsWithin : ℕ → ℕ → List Psn → Type 0
AscendsWithin low high [] = Unit {0}
AscendsWithin low high (p ∷ ps) = (low ≤ p.0) × (p.0 < high) × AscendsWithin (p.0 + 1) high ps

-- what a primary list may be: user sectors, strictly ascending, no more than a list may have and than are kept back
pub record IsPrimaryList (size : Size) (primary : List Psn) : Type 0 where
  pub ascending : AscendsWithin 16 (total_of size) primary
  pub few : length primary ≤ PRIMARY_MAX
  pub kept_back : length primary ≤ size.reserved

-- old is a user sector, and new is a spare
pub record IsPair (size : Size) (primary : List Psn) (pair : Pair) : Type 0 where
  pub old_from : 16 ≤ pair.old.0
  pub old_to : pair.old.0 < total_of size
  pub new : IsTrue (list_any (λ p. p == pair.new.0) (spares size primary))

-- the pairs have different spares
abbrev pub HaveOwnSpares : Pair → Pair → Type 0
HaveOwnSpares p q = p.new.0 ≢ q.new.0

-- what a grown list may be
pub record IsGrownList (size : Size) (primary : List Psn) (grown : List Pair) : Type 0 where
  pub pairs : All (IsPair size primary) grown
  pub own_spares : AllPairs HaveOwnSpares grown
  pub few : length grown ≤ PAIRS_MAX

-- the lists of a valid map
pub record IsValidMap (m : DefectMap) : Type 0 where
  pub primary : IsPrimaryList m.size m.primary
  pub grown : IsGrownList m.size m.primary m.grown

-- the map that the factory leaves
abbrev pub factory_map : Size → List Psn → DefectMap
factory_map size primary = map_of size primary [] 2 1 0

-- a map with these pairs after its own
abbrev pub with_pairs : DefectMap → List Pair → DefectMap
with_pairs m pairs = record m { grown = m.grown ++ pairs }
