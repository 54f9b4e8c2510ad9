-- Chains of pairs, by which a block goes from sector to sector, and the spares that are left for them.
use Rattle.std.specs.Prelude.{◌≡◌, ◌≢◌, ℕ, ◌+◌, ◌<◌, ◌==◌, false, List, [], ◌∷◌, length, IsTrue, All}
use Rattle.std.specs.List.{list_any}
use Rattle.disk_base.specs.declared.address.Psn.{Psn}
use Rattle.disk_base.specs.declared.address.Lba.{Lba}
use Rattle.geometry_map.specs.declared.limits.TheConstants.{PAIRS_MAX}
use Rattle.geometry_map.specs.declared.pair.Pair.{Pair}
use Rattle.geometry_map.specs.DefectMap.{DefectMap, spares, is_in_a_pair, is_listed, place_of, with_pairs}

-- each pair goes on where the one before it ended, the first from a sector
abbrev pub IsChain : Psn → List Pair → Type 0
IsChain at [] = Unit {0}
IsChain at (pair ∷ pairs) = (pair.old ≡ at) × IsChain pair.new pairs

-- where a chain from a sector ends
abbrev pub chain_end : Psn → List Pair → Psn
chain_end at [] = at
chain_end at (pair ∷ pairs) = chain_end pair.new pairs

-- a sector is new of none of the pairs
abbrev pub IsNoNew : Psn → List Pair → Type 0
IsNoNew p pairs = All (λ pair. pair.new ≢ p) pairs

-- the block is at the chain's end, and a block whose place is neither the chain's beginning nor one of its spares is where it was
pub record MovesOne (m : DefectMap) (b : Lba) (pairs : List Pair) : Type 0 where
  pub own : place_of (with_pairs m pairs) b ≡ chain_end (place_of m b) pairs
  pub others : (q : Lba) → place_of m q ≢ place_of m b → IsNoNew (place_of m q) pairs → place_of (with_pairs m pairs) q ≡ place_of m q

-- a spare that is in no pair
pub record IsFreeSpare (m : DefectMap) (p : Psn) : Type 0 where
  pub spare : IsTrue (list_any (λ q. q == p.0) (spares m.size m.primary))
  pub in_no_pair : is_in_a_pair p.0 m.grown ≡ false

-- a free spare that is not taken, where pairs and taken together are fewer than a list may have
pub record IsNextSpare (m : DefectMap) (taken : List Psn) (p : Psn) : Type 0 where
  pub free : IsFreeSpare m p
  pub not_taken : is_listed p.0 taken ≡ false
  pub few : length m.grown + length taken < PAIRS_MAX
