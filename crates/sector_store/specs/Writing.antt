-- Writes of payloads one after another.
use Rattle.std.specs.Prelude.{◌≡◌, ◌↔◌, ℕ, ◌≤◌, true, false, List, length, map, ◌++◌, fold, Option, Some, None}
use Rattle.disk_base.specs.declared.payload.Payload.{Payload}
use Rattle.platter_model.specs.declared.damage.Arming.{Arming}
use Rattle.platter_model.specs.declared.op.Op.{Op}
use Rattle.platter_model.specs.declared.op.Op.TheVariants.{Wrote}
use Rattle.platter_model.specs.State.{State, after_write}
use Rattle.platter_model.specs.TrueLog.{is_off}
use Rattle.sector_store.specs.Shapes.{AreWrites}

-- a platter after the write of a payload to its own sector
abbrev pub after_own_write : State → Payload → State
after_own_write s payload = after_write s payload.psn payload

-- and after several; none is carried out any more once the power is off
abbrev pub after_writes : State → List Payload → State
after_writes s payloads = fold after_own_write s payloads

-- a cut is armed, for one of the next so many writes
abbrev pub IsDueWithin : ℕ → Option Arming → Type 0
IsDueWithin n None = ⊥
IsDueWithin n (Some arming) = (1 ≤ arming.k) × (arming.k ≤ n)

-- what writes to sectors without a fault add, begun while the power is on: all of them, or those up to the armed cut
pub record AddsWrites (before : State) (payloads : List Payload) (after : State) : Type 0 where
  pub more : List Op
  pub added : after.ops ≡ before.ops ++ more
  pub writes : AreWrites payloads more
  pub whole : is_off after.ops ≡ false → more ≡ map Wrote payloads
  pub due : (is_off after.ops ≡ true) ↔ IsDueWithin (length payloads) before.armed
