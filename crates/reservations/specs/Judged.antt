-- How a command that arrives is judged: the first rule that applies.
use Rattle.std.specs.Prelude.{ℕ, ◌==◌, ◌||◌, ◌&&◌, Bool, not, if◌then◌else◌, List, take, slice_index, Option, Some, None, Result, Ok, Err}
use Rattle.disk_base.specs.declared.command.DataOut.{DataOut}
use Rattle.sense_data.specs.declared.sense.Sense.{Sense}
use Rattle.sense_data.specs.Attentions.{first_of, first_taken}
use Rattle.reservations.specs.declared.request.Request.{Request}
use Rattle.reservations.specs.declared.state.Holder.{Holder}
use Rattle.reservations.specs.declared.state.State.{State}
use Rattle.reservations.specs.declared.verdict.Rule.TheVariants.{Keys, Reservation, DenyKey, DenyHolder}
use Rattle.reservations.specs.declared.verdict.Verdict.{Verdict}
use Rattle.reservations.specs.declared.verdict.Verdict.TheVariants.{Admit}
use Rattle.reservations.specs.Acts.{acted, has_right_keys}
use Rattle.reservations.specs.Conflict.{conflicts}
use Rattle.reservations.specs.Desk.{is_registered}
use Rattle.reservations.specs.Pages.{keys_page, reservation_page}
use Rattle.reservations.specs.Request.{allocation, has_naca, invalid_field_in_cdb, request_of, service_action}
use Rattle.reservations.specs.Verdicts.{Judgement, denied, refused, shown, told}

-- a verdict that leaves the desk as it is
abbrev pub unchanged : State → Verdict → Judgement
unchanged d verdict = record { verdict = verdict; desk = d }

-- PERSISTENT RESERVE IN
abbrev pub judged_in : State → List ℕ → Verdict
judged_in d cdb =
    if has_naca cdb then refused invalid_field_in_cdb else
    if service_action cdb == 0 then shown Keys (take (allocation cdb) (keys_page d)) else
    if service_action cdb == 1 then shown Reservation (take (allocation cdb) (reservation_page d)) else
    refused invalid_field_in_cdb

-- PERSISTENT RESERVE OUT that asks for this, or of which this is refused
abbrev pub judged_out : Result Request Sense → State → ℕ → Judgement
judged_out (Err sense) d i = unchanged d (refused sense)
judged_out (Ok r) d i = if has_right_keys d i r then acted r.action d i r else unchanged d (denied DenyKey)

-- any other command: of another than the holder it is kept out, or admitted
abbrev pub judged_other : Option Holder → State → ℕ → ℕ → Verdict
judged_other None d i code = Admit
judged_other (Some h) d i code =
    if not (h.initiator == i) && conflicts code h.kind (is_registered d i) then denied (DenyHolder h.initiator h.kind) else Admit

-- INQUIRY, REPORT LUNS and REQUEST SENSE are served whatever waits
abbrev pub passes_attentions : ℕ → Bool
passes_attentions code = code == 0x03 || code == 0x12 || code == 0xA0

-- the attention that is told in place of a command, where one waits
abbrev pub attention_met : State → ℕ → ℕ → Option Sense
attention_met d i code = if passes_attentions code then None else first_of d.waiting i

-- the desk after that attention was told
abbrev pub after_attention : Option Sense → State → ℕ → State
after_attention None d i = d
after_attention (Some sense) d i = record d { waiting = first_taken d.waiting i }

-- where no attention is told
abbrev pub judged_by_code : State → ℕ → List ℕ → DataOut → ℕ → Judgement
judged_by_code d i cdb sent code =
    if code == 0x5E then unchanged d (judged_in d cdb) else
    if code == 0x5F then judged_out (request_of cdb sent) d i else
    unchanged d (judged_other d.holder d i code)

abbrev pub judged_from : Option Sense → State → ℕ → List ℕ → DataOut → Judgement
judged_from (Some sense) d i cdb sent = record { verdict = told sense; desk = after_attention (Some sense) d i }
judged_from None d i cdb sent = judged_by_code d i cdb sent (slice_index cdb 0)

-- the first rule that applies: a waiting attention; PERSISTENT RESERVE IN; PERSISTENT RESERVE OUT; a conflict; admitted
abbrev pub judged : State → ℕ → List ℕ → DataOut → Judgement
judged d i cdb sent = judged_from (attention_met d i (slice_index cdb 0)) d i cdb sent
