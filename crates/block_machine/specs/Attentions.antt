-- Whom a history warns (SAM-4, unit attention condition).
use Rattle.std.specs.Prelude.{ℕ, ◌==◌, ◌&&◌, ◌||◌, Bool, true, not, if◌then◌else◌, List, [], ◌∷◌, fold, Option, None}
use Rattle.std.specs.List.{list_any}
use Rattle.sense_data.specs.declared.attention.Attention.{Attention}
use Rattle.sense_data.specs.declared.sense.Sense.{Sense}
use Rattle.sense_data.specs.Attentions.{Waiting, attention, raised, first_of, power_on_waiting}
use Rattle.task_set.specs.declared.member.Member.{Member}
use Rattle.task_set.specs.Members.{is_of}

-- at the start of a history each of the eight initiators is to be told that the power came on (SAM-4, unit attention
-- condition)
abbrev pub attentions_at_start : Waiting
attentions_at_start = power_on_waiting

-- the eight initiators, by their numbers
abbrev pub initiators : List ℕ
initiators = 1 ∷ 2 ∷ 3 ∷ 4 ∷ 5 ∷ 6 ∷ 7 ∷ 8 ∷ []

-- an attention waits for each initiator that passes a test
abbrev pub raised_where : (ℕ → Bool) → Attention → Waiting → Waiting
raised_where test a waiting = fold (λ w i. if test i then raised w i a else w) waiting initiators

-- after LOGICAL UNIT RESET everyone is to be told
abbrev pub after_reset : Waiting → Waiting
after_reset waiting = raised_where (λ i. true) (attention 0x29 0x03) waiting

-- after a MODE SELECT that changed a value everyone else is to be told
abbrev pub after_mode_change : ℕ → Waiting → Waiting
after_mode_change i waiting = raised_where (λ j. not (j == i)) (attention 0x2A 0x01) waiting

-- after CLEAR TASK SET everyone else whose commands it ended is to be told
abbrev pub after_clear : ℕ → List Member → Waiting → Waiting
after_clear i set waiting = raised_where (λ j. not (j == i) && list_any (is_of j) set) (attention 0x2F 0x00) waiting

-- INQUIRY, REPORT LUNS and REQUEST SENSE are served whatever waits
abbrev pub passes_attentions : ℕ → Bool
passes_attentions code = code == 0x12 || code == 0xA0 || code == 0x03

-- the sense data of the attention that ends a command of this operation code: the first that waits for its initiator,
-- unless the command is served whatever waits
abbrev pub attention_met : Waiting → ℕ → ℕ → Option Sense
attention_met waiting i code = if passes_attentions code then None else first_of waiting i
