-- What contracts see of a platter, and how its calls change that.
use Rattle.std.specs.Prelude.{ℕ, ◌-◌, ◌≤◌, ◌==◌, List, [], ◌∷◌, ◌++◌, length, map, max, Option, Some, None, if◌then◌else◌}
use Rattle.disk_base.specs.declared.address.Psn.{Psn}
use Rattle.disk_base.specs.declared.payload.Payload.{Payload}
use Rattle.disk_base.specs.declared.stage.Stage.{Stage}
use Rattle.platter_model.specs.declared.answer.WriteAnswer.{WriteAnswer}
use Rattle.platter_model.specs.declared.answer.WriteAnswer.TheVariants.{Written, Fault, Off}
use Rattle.platter_model.specs.declared.damage.Arming.{Arming}
use Rattle.platter_model.specs.declared.damage.Tear.{Tear}
use Rattle.platter_model.specs.declared.op.Op.{Op}
use Rattle.platter_model.specs.declared.op.Op.TheVariants.{Wrote, Torn, WriteFailed, Fetched, Tried, Cut, Power}
use Rattle.platter_model.specs.Sector.{is_faulty}
use Rattle.platter_model.specs.TrueLog.{attempt_of, is_off}

-- how many sectors there are, the operations, the cut that is armed, and for how many more operations there is room
pub record State : Type 0 where
  pub sectors : ℕ
  pub ops : List Op
  pub armed : Option Arming
  pub room : ℕ

-- a cut that is armed names a write, and keeps to the samples
abbrev pub IsReady : Option Arming → Type 0
IsReady None = Unit {0}
IsReady (Some arming) = (1 ≤ arming.k) × (arming.tear.scar ≤ 9478)

-- more room
abbrev pub with_room : State → ℕ → State
with_room s n = record s { room = max s.room n }

-- fresh sectors that these payloads were written to
abbrev pub made : ℕ → List Payload → State
made sectors first = record { sectors = sectors; ops = map Wrote first; armed = None; room = 0 }

-- one operation more, in the room that was there
abbrev pub with_op : State → Op → State
with_op s op = record s { ops = s.ops ++ op ∷ []; room = s.room - 1 }

-- how a write to a sector without a fault is answered, while the power is on: the armed cut may tear it
abbrev pub good_answer : Option Arming → WriteAnswer
good_answer None = Written
good_answer (Some arming) = if arming.k == 1 then Off else Written

-- how a write is answered: nothing is done while the power is off, and a fault fails it
abbrev pub write_answer : State → Psn → WriteAnswer
write_answer s p = if is_off s.ops then Off else if is_faulty p s.ops then Fault else good_answer s.armed

-- a torn write: the power goes off in it, and the cut is spent
abbrev pub torn : State → Payload → Tear → State
torn s payload tear = record s { ops = s.ops ++ Torn payload tear ∷ [] ++ Cut ∷ []; armed = None; room = s.room - 2 }

-- a write to a sector without a fault, while the power is on: the armed cut counts it, or tears it
abbrev pub after_good_write : Option Arming → State → Payload → State
after_good_write None s payload = with_op s (Wrote payload)
after_good_write (Some arming) s payload =
    if arming.k == 1
    then torn s payload arming.tear
    else record (with_op s (Wrote payload)) { armed = Some (record arming { k = arming.k - 1 }) }

-- the state after a write
abbrev pub after_write : State → Psn → Payload → State
after_write s p payload =
    if is_off s.ops then s else
    if is_faulty p s.ops then with_op s (WriteFailed p) else
    after_good_write s.armed s payload

-- a platter after a try of a sector: a fetch by the stage's attempt, and what the stage found in its samples
abbrev pub tried : State → Psn → Stage → Option Payload → State
tried s p stage found = with_op (with_op s (Fetched p (attempt_of stage))) (Tried (length s.ops) p stage found)

-- the power goes off, and nothing is armed any more; where it is off already, nothing changes
abbrev pub after_cut : State → State
after_cut s = if is_off s.ops then s else with_op (record s { armed = None }) Cut

-- the power comes back; where it is on, nothing changes
abbrev pub after_power : State → State
after_power s = if is_off s.ops then with_op s Power else s
