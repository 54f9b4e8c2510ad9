-- How a command ends: statuses (SAM-4, status codes) and sense data (SPC-4, sense key and additional sense code definitions).
use Rattle.std.specs.Prelude.{ℕ, ◌==◌, ◌&&◌, ◌||◌, Bool, false, nat_eq, Some, None}
use Rattle.std.specs.Option.{option_eq, option_map_or}
use Rattle.sense_data.specs.declared.reply.Reply.{Reply}
use Rattle.sense_data.specs.declared.sense.Sense.{Sense}
use Rattle.sense_data.specs.Sense.{sense_of}

abbrev pub good : Reply
good = record { status = 0x00; sense = None }

-- CHECK CONDITION with sense data
abbrev pub check_condition : Sense → Reply
check_condition sense = record { status = 0x02; sense = Some sense }

-- MEDIUM ERROR with an additional sense code and its qualifier, at a block
abbrev pub medium_error : ℕ → ℕ → ℕ → Reply
medium_error asc ascq b = check_condition (record (sense_of 3 asc ascq) { information = Some b })

-- UNRECOVERED READ ERROR at a block
abbrev pub unrecovered_read : ℕ → Reply
unrecovered_read b = medium_error 0x11 0x00 b

-- NO DEFECT SPARE LOCATION AVAILABLE; the first block that isn't reassigned is named
abbrev pub no_spare : ℕ → Reply
no_spare b = check_condition (record (sense_of 4 0x32 0x00) { specific = b })

abbrev pub same_sense : Sense → Sense → Bool
same_sense s t = s.key == t.key && option_eq nat_eq s.information t.information && s.specific == t.specific && s.asc == t.asc && s.ascq == t.ascq

abbrev pub same_reply : Reply → Reply → Bool
same_reply r s = r.status == s.status && option_eq same_sense r.sense s.sense

-- WRITE ERROR at a block, without or with AUTO REALLOCATION FAILED
abbrev pub is_write_error : ℕ → Reply → Bool
is_write_error b reply = same_reply reply (medium_error 0x0C 0x00 b) || same_reply reply (medium_error 0x0C 0x02 b)

-- RECOVERED ERROR
abbrev pub is_recovered : Reply → Bool
is_recovered reply = reply.status == 0x02 && option_map_or (λ s. s.key == 1) reply.sense false
