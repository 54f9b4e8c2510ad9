-- How a recovery changes a store.
use Rattle.std.specs.Prelude.{◌≡◌, ◌↔◌, ℕ, ◌+◌, ◌-◌, ◌≤◌, true, false, List, ◌∷◌, ◌++◌, length, map, Option, None}
use Rattle.disk_base.specs.declared.payload.Payload.{Payload}
use Rattle.disk_base.specs.declared.address.Psn.{Psn}
use Rattle.disk_base.specs.declared.stage.Stage.{Stage}
use Rattle.platter_model.specs.declared.op.Op.{Op}
use Rattle.platter_model.specs.declared.op.Op.TheVariants.{Wrote, Power}
use Rattle.platter_model.specs.State.{State, with_op}
use Rattle.platter_model.specs.TrueLog.{is_off, strays}
use Rattle.geometry_map.specs.DefectMap.{DefectMap}
use Rattle.read_recovery.specs.Stages.{stages_of}
use Rattle.map_generations.specs.Recovery.{Reads, counted, IsTaken, IsCorrupt}
use Rattle.map_generations.specs.SafeMaps.{AreReadFrom, NumbersUpTo}
use Rattle.sector_store.specs.declared.answer.RecoverAnswer.{RecoverAnswer}
use Rattle.sector_store.specs.declared.answer.RecoverAnswer.TheVariants.{Ready, Corrupt, Off}
use Rattle.sector_store.specs.Maps.{meant_on}
use Rattle.sector_store.specs.Shapes.{AreTries, AreReads, AreWrites, recovery_records}
use Rattle.sector_store.specs.Writing.{after_writes, IsDueWithin}
use Rattle.sector_store.specs.Committing.{KeepsReserved, AreSafe}
use Rattle.sector_store.specs.State.{Contained, IsReady}

-- a platter with these operations more, in the room that was there
abbrev pub with_ops : State → List Op → State
with_ops s more = record s { ops = s.ops ++ more; room = s.room - length more }

-- a sector was tried by stages, up to the first that found, and reads as this
pub record IsReadBy (before : State) (p : Psn) (stages : List Stage) (found : Option Payload) (after : State) : Type 0 where
  pub more : List Op
  pub tries : AreTries (length before.ops) p stages found more
  pub is : after ≡ with_ops before more

-- so many sectors from 0 on were read so, and this is what each reads as
pub record AreReadBy (before : State) (count : ℕ) (stages : List Stage) (reads : Reads) (after : State) : Type 0 where
  pub more : List Op
  pub tries : AreReads (length before.ops) 0 count stages reads more
  pub is : after ≡ with_ops before more

-- a store whose power came on, and each of the sixteen sectors of the maps was read by the stages of five retries
pub record IsReadAnew (s : Contained) (reads : Reads) (after : Contained) : Type 0 where
  pub read : AreReadBy (with_op s.platter Power) 16 (stages_of 5) reads after.platter
  pub is : after ≡ record s { platter = after.platter }

-- the sectors of the maps read as what is meant there, or as nothing, unless a try was a stray
abbrev pub IsReadTruly : Contained → Reads → Type 0
IsReadTruly s reads = strays s.platter.ops ≡ 0 → AreReadFrom (meant_on s.platter.ops) reads

-- the rule takes a map of the store's drive from what the sectors of its maps read as
pub record IsFound (s : Contained) (m : DefectMap) : Type 0 where
  pub reads : Reads
  pub taken : IsTaken s.map.size (counted reads) m
  pub truly : IsReadTruly s reads

-- a store after a map that it took was written to both slots, and after that was cut off
abbrev pub recovered : Contained → DefectMap → Contained
recovered s m = record s { map = record m { number = m.number + 4 }; next = None; ready = true; platter = after_writes s.platter (recovery_records m) }

abbrev pub broken_off : Contained → DefectMap → Contained
broken_off s m = record s { ready = false; platter = after_writes s.platter (recovery_records m) }

-- a map that was taken was written to both slots, the other slot first: four more is its number now, and the store is ready by it
pub record IsRecovered (s : Contained) (m : DefectMap) (number : ℕ) (after : Contained) : Type 0 where
  pub numbered : number ≡ m.number + 4
  pub is : after ≡ recovered s m
  pub written : after.platter.ops ≡ s.platter.ops ++ map Wrote (recovery_records m)
  pub ready : IsReady after

-- that was cut off: some records are written, the last of them torn, and the store isn't ready and keeps the maps that it kept
pub record IsRecoveryCut (s : Contained) (m : DefectMap) (after : Contained) : Type 0 where
  pub is : after ≡ broken_off s m
  pub more : List Op
  pub written : after.platter.ops ≡ s.platter.ops ++ more
  pub writes : AreWrites (recovery_records m) more
  pub off : is_off after.platter.ops ≡ true

-- numbers that were meant grow by four at most, where no try was a stray
abbrev pub RaisesNumbers : Contained → Contained → Type 0
RaisesNumbers s after = (n : ℕ) → strays after.platter.ops ≡ 0 → NumbersUpTo (meant_on s.platter.ops) n → NumbersUpTo (meant_on after.platter.ops) (n + 4)

-- what the writes of a map that was taken come to
pub record Rewrites (s : Contained) (m : DefectMap) (answer : RecoverAnswer) (after : Contained) : Type 0 where
  pub ready : (number : ℕ) → answer ≡ Ready number → IsRecovered s m number after
  pub found : (slot : ℕ) → answer ≡ Corrupt slot → ⊥
  pub off : answer ≡ Off → IsRecoveryCut s m after
  pub due : (answer ≡ Off) ↔ IsDueWithin 16 s.platter.armed
  pub reserved : KeepsReserved s after
  pub safe : AreSafe after
  pub numbers : RaisesNumbers s after

-- what a recovery comes to by what was read: the rule takes a map, which is written to both slots, or the map is corrupt, and
-- nothing is written
abbrev pub IsToldBy : RecoverAnswer → Contained → Reads → Contained → Type 0
IsToldBy (Ready number) s reads after =
    (m : DefectMap) × IsTaken s.map.size (counted reads) m × IsRecovered s m number after × (IsDueWithin 16 s.platter.armed → ⊥)
IsToldBy (Corrupt slot) s reads after = IsCorrupt s.map.size (counted reads) slot × (after ≡ record s { ready = false })
IsToldBy Off s reads after =
    (m : DefectMap) × IsTaken s.map.size (counted reads) m × IsRecoveryCut s m after × IsDueWithin 16 s.platter.armed

-- a recovery: the power comes on, the sectors of the maps are read, and the rule decides
pub record Recovers (s : Contained) (answer : RecoverAnswer) (after : Contained) : Type 0 where
  pub reads : Reads
  pub middle : Contained
  pub read : IsReadAnew s reads middle
  pub told : IsToldBy answer middle reads after
