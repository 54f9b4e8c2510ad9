-- The test of a valid map, which computes.
use Rattle.std.specs.Prelude.{ℕ, ◌+◌, ◌==◌, ◌&&◌, ◌↔◌, not, nat_le, nat_lt, Bool, true, List, [], ◌∷◌, length, IsTrue}
use Rattle.std.specs.List.{list_any, list_all}
use Rattle.disk_base.specs.declared.address.Psn.{Psn}
use Rattle.geometry_map.specs.declared.limits.TheConstants.{PRIMARY_MAX, PAIRS_MAX}
use Rattle.geometry_map.specs.declared.size.Size.{Size}
use Rattle.geometry_map.specs.declared.pair.Pair.{Pair}
use Rattle.geometry_map.specs.Size.{total_of}
use Rattle.geometry_map.specs.DefectMap.{DefectMap, spares, IsValidMap}

-- whether each sector is from `low` to below `high`, and above the one before it
abbrev pub ascends_within : ℕ → ℕ → List Psn → Bool
ascends_within low high [] = true
ascends_within low high (p ∷ ps) = nat_le low p.0 && (nat_lt p.0 high && ascends_within (p.0 + 1) high ps)

-- whether old is a user sector, and new is a spare
abbrev pub is_pair : Size → List Psn → Pair → Bool
is_pair size primary pair =
    nat_le 16 pair.old.0 && (nat_lt pair.old.0 (total_of size) && list_any (λ p. p == pair.new.0) (spares size primary))

-- whether each pair has a spare that no later one has
abbrev pub have_own_spares : List Pair → Bool
have_own_spares [] = true
have_own_spares (pair ∷ pairs) = not (list_any (λ later. later.new.0 == pair.new.0) pairs) && have_own_spares pairs

abbrev pub is_primary_list : Size → List Psn → Bool
is_primary_list size primary =
    ascends_within 16 (total_of size) primary && (nat_le (length primary) PRIMARY_MAX && nat_le (length primary) size.reserved)

abbrev pub is_grown_list : Size → List Psn → List Pair → Bool
is_grown_list size primary grown =
    list_all (is_pair size primary) grown && (have_own_spares grown && nat_le (length grown) PAIRS_MAX)

-- whether a map is valid
abbrev pub is_valid_map : DefectMap → Bool
is_valid_map m = is_primary_list m.size m.primary && is_grown_list m.size m.primary m.grown

-- it tells the valid maps
abbrev pub TestTellsValidMaps : Type 0
TestTellsValidMaps = (m : DefectMap) → IsTrue (is_valid_map m) ↔ IsValidMap m
