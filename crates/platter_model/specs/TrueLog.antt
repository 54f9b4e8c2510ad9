-- Which lists of operations a platter can have, and the tries in them that found what wasn't meant.
use Rattle.std.specs.Prelude.{◌≡◌, ◌≢◌, ℕ, ◌+◌, ◌==◌, Bool, true, false, ◌&&◌, not, ℤ, List, [], ◌∷◌, ◌++◌, Option, Some, None, fold, take, slice_get, if◌then◌else◌}
use Rattle.std.specs.Str.{bytes_eq}
use Rattle.disk_base.specs.declared.address.Psn.{Psn}
use Rattle.disk_base.specs.declared.payload.Payload.{Payload}
use Rattle.disk_base.specs.declared.stage.Stage.{Stage}
use Rattle.platter_model.specs.declared.damage.Attempt.{Attempt}
use Rattle.platter_model.specs.declared.op.Op.{Op}
use Rattle.platter_model.specs.declared.op.Op.TheVariants.{Wrote, Torn, WriteFailed, Damaged, Faulty, Fetched, Tried, Cut, Power}
use Rattle.platter_model.specs.Sector.{meant, is_faulty}
use Rattle.platter_model.specs.Given.{IsGiven, IsFound}

-- the power is on; or it is going off, as a write is torn; or it is off
pub data Supply : Type 0 where
  powered : Supply
  failing : Supply
  unpowered : Supply

abbrev pub supply_after : Supply → Op → Supply
supply_after before (Torn payload tear) = failing
supply_after before Cut = unpowered
supply_after before Power = powered
supply_after before _ = before

-- the power after operations; it is on at first
abbrev pub supply : List Op → Supply
supply ops = fold supply_after powered ops

abbrev pub is_unpowered : Supply → Bool
is_unpowered powered = false
is_unpowered failing = false
is_unpowered unpowered = true

-- the power is off
abbrev pub is_off : List Op → Bool
is_off ops = is_unpowered (supply ops)

-- the power is off after an operation
abbrev pub off_after : Bool → Op → Bool
off_after before (Torn payload tear) = false
off_after before Cut = true
off_after before Power = false
off_after before _ = before

-- the attempt that a stage makes
abbrev pub attempt_of : Stage → Attempt
attempt_of stage = record { reread = stage.reread; offset = stage.offset }

-- a try of the fetch of that number, on p, by a stage: what was found is what the samples of that fetch hold
pub record IsTrueTry (before : List Op) (at : ℕ) (p : Psn) (stage : Stage) (found : Option Payload) : Type 0 where
  pub fetched : slice_get before at ≡ Some (Fetched p (attempt_of stage))
  pub samples : List ℤ
  pub given : IsGiven (take at before) p (attempt_of stage) samples
  pub is_found : IsFound p samples stage.how found

-- an operation may come after those before
abbrev pub MayFollow : List Op → Op → Type 0
MayFollow before (Wrote payload) = (supply before ≡ powered) × (is_faulty payload.psn before ≡ false)
MayFollow before (Torn payload tear) = (supply before ≡ powered) × (is_faulty payload.psn before ≡ false)
MayFollow before (WriteFailed p) = (supply before ≡ powered) × (is_faulty p before ≡ true)
MayFollow before (Damaged damage) = supply before ≢ failing
MayFollow before (Faulty p) = supply before ≢ failing
MayFollow before (Fetched p attempt) = supply before ≡ powered
MayFollow before (Tried at p stage found) = (supply before ≡ powered) × IsTrueTry before at p stage found
MayFollow before Cut = supply before ≢ unpowered
MayFollow before Power = supply before ≡ unpowered

-- each of the operations may come after those before it
abbrev pub TrueFrom : List Op → List Op → Type 0
TrueFrom before [] = Unit {0}
TrueFrom before (op ∷ ops) = MayFollow before op × TrueFrom (before ++ op ∷ []) ops

-- a platter can have these operations; a torn write is followed by the cut
pub record IsTrueLog (ops : List Op) : Type 0 where
  pub each : TrueFrom [] ops
  pub whole : supply ops ≢ failing

-- two payloads are the same
abbrev pub is_same : Payload → Payload → Bool
is_same a b = (a.kind == b.kind) && (a.index == b.index) && (a.state == b.state) && (a.version == b.version)
    && (a.psn.0 == b.psn.0) && (a.address == b.address) && bytes_eq a.block b.block

-- a payload was found, and isn't the one that is meant
abbrev pub is_other : Option Payload → Option Payload → Bool
is_other meant None = false
is_other None (Some found) = true
is_other (Some payload) (Some found) = not (is_same payload found)

-- an operation is a stray: a try that found a payload other than the one meant at its fetch
abbrev pub is_stray : List Op → Op → Bool
is_stray before (Tried at p stage found) = is_other (meant p (take at before)) found
is_stray before _ = false

abbrev pub strays_from : List Op → List Op → ℕ
strays_from before [] = 0
strays_from before (op ∷ ops) = (if is_stray before op then 1 else 0) + strays_from (before ++ op ∷ []) ops

-- how many of the operations are strays
abbrev pub strays : List Op → ℕ
strays ops = strays_from [] ops
