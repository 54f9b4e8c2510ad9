-- How a command is answered at the desk.
use Rattle.std.specs.Prelude.{ℕ, List, [], Some, None}
use Rattle.sense_data.specs.declared.sense.Sense.{Sense}
use Rattle.reservations.specs.declared.verdict.Rule.{Rule}
use Rattle.reservations.specs.declared.verdict.Rule.TheVariants.{Attention, Field}
use Rattle.reservations.specs.declared.verdict.Verdict.{Verdict}
use Rattle.reservations.specs.declared.verdict.Verdict.TheVariants.{Answered}
use Rattle.reservations.specs.declared.state.State.{State}

-- a verdict, and the desk after it
pub record Judgement : Type 0 where
  pub verdict : Verdict
  pub desk : State

-- GOOD with this data
abbrev pub shown : Rule → List ℕ → Verdict
shown rule page = Answered rule (record { status = 0x00; sense = None }) (record { items = page })

-- GOOD without data
abbrev pub done : Rule → Verdict
done rule = shown rule []

-- CHECK CONDITION by a rule
abbrev pub checked : Rule → Sense → Verdict
checked rule sense = Answered rule (record { status = 0x02; sense = Some sense }) (record { items = [] })

-- a field is refused
abbrev pub refused : Sense → Verdict
refused sense = checked Field sense

-- an attention is told
abbrev pub told : Sense → Verdict
told sense = checked Attention sense

-- RESERVATION CONFLICT, without sense data
abbrev pub denied : Rule → Verdict
denied rule = Answered rule (record { status = 0x18; sense = None }) (record { items = [] })
