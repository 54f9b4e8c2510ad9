-- What happens to a store's maps, and which of them a recovery takes.
use Rattle.std.specs.Prelude.{◌≡◌, ◌⊎◌, ℕ, true, List, [], ◌∷◌, Option, Some, None}
use Rattle.platter_model.specs.TrueLog.{strays}
use Rattle.geometry_map.specs.DefectMap.{DefectMap}
use Rattle.map_generations.specs.Recovery.{Reads, counted, IsTaken}
use Rattle.map_generations.specs.SafeMaps.{AreOneMap}
use Rattle.sector_store.specs.declared.answer.RecoverAnswer.TheVariants.{Corrupt}
use Rattle.sector_store.specs.Commits.{IsNextOf}
use Rattle.sector_store.specs.Committing.{IsCommitted, IsCommitCut}
use Rattle.sector_store.specs.Recovering.{IsReadAnew, IsRecovered, IsRecoveryCut, Recovers}
use Rattle.sector_store.specs.State.{Contained, IsStore}
use Rattle.sector_store.specs.Laws.{IsQuietBelow}

-- a commit of a map is done, or cut off; a recovery takes a map and is done, or is cut off as it writes it, or finds the map
-- corrupt; and all else, which leaves the maps and their sectors alone but for damage: writes and tries of blocks, faults, cuts
pub data Happening : Type 0 where
  Committed : DefectMap → Happening
  CommitCut : DefectMap → Happening
  Taken : DefectMap → Happening
  TakenCut : DefectMap → Happening
  FoundCorrupt : ℕ → Happening
  Otherwise : Happening

-- the power came on, and the rule took a map from what the sectors of the maps read as
pub record TakesAnew (s : Contained) (m : DefectMap) (middle : Contained) : Type 0 where
  pub reads : Reads
  pub read : IsReadAnew s reads middle
  pub taken : IsTaken middle.map.size (counted reads) m

-- it makes of one store another
abbrev pub Happens : Contained → Happening → Contained → Type 0
Happens s (Committed next) after = IsNextOf s.map next × IsCommitted s next after
Happens s (CommitCut next) after = IsNextOf s.map next × IsCommitCut s next after
Happens s (Taken m) after = (middle : Contained) × (number : ℕ) × TakesAnew s m middle × IsRecovered middle m number after
Happens s (TakenCut m) after = (middle : Contained) × TakesAnew s m middle × IsRecoveryCut middle m after
Happens s (FoundCorrupt slot) after = Recovers s (Corrupt slot) after
Happens s Otherwise after = (after.map ≡ s.map) × (after.next ≡ s.next) × IsQuietBelow s.platter after.platter

-- they happen one after another, each to a store
abbrev pub Happen : Contained → List Happening → Contained → Type 0
Happen s [] after = after ≡ s
Happen s (happening ∷ rest) after = (middle : Contained) × Happens s happening middle × IsStore middle × Happen middle rest after

-- the map that was committed last, or taken since, and the one that was being committed as the power went
pub record LastMaps : Type 0 where
  pub last : DefectMap
  pub broken_off : Option DefectMap

-- these after one happening more
abbrev pub last_after : LastMaps → Happening → LastMaps
last_after maps (Committed m) = record { last = m; broken_off = None }
last_after maps (CommitCut m) = record { last = maps.last; broken_off = Some m }
last_after maps (Taken m) = record { last = m; broken_off = None }
last_after maps (TakenCut m) = maps
last_after maps (FoundCorrupt slot) = maps
last_after maps Otherwise = maps

-- a map is the last one that was committed, or the one that was being committed, number and slot aside
abbrev pub IsLastOrBroken : LastMaps → DefectMap → Type 0
IsLastOrBroken maps m = AreOneMap m maps.last ⊎ ((next : DefectMap) × (maps.broken_off ≡ Some next) × AreOneMap m next)

-- a recovery that takes a map takes one of these
abbrev pub TakesLast : LastMaps → Happening → Type 0
TakesLast maps (Taken m) = IsLastOrBroken maps m
TakesLast maps (TakenCut m) = IsLastOrBroken maps m
TakesLast maps happening = Unit {0}

-- and so does each
abbrev pub EachTakesLast : LastMaps → List Happening → Type 0
EachTakesLast maps [] = Unit {0}
EachTakesLast maps (happening ∷ rest) = TakesLast maps happening × EachTakesLast (last_after maps happening) rest

-- over any number of commits and recoveries, each cut off at any write, and whatever damage comes, while no try is a stray: the map
-- that a recovery takes is the last one that was committed, or the one that was being committed as the power went
abbrev pub RecoveriesTakeLastMaps : Type 0
RecoveriesTakeLastMaps = (s after : Contained) (history : List Happening) → IsStore s → Happen s history after → strays after.platter.ops ≡ 0
    → EachTakesLast (record { last = s.map; broken_off = s.next }) history
