-- What PERSISTENT RESERVE IN and OUT ask for (SPC-4, PERSISTENT RESERVE IN command, PERSISTENT RESERVE OUT command).
use Rattle.std.specs.Prelude.{ℕ, ◌%◌, ◌==◌, ◌&&◌, ◌||◌, Bool, true, false, not, if◌then◌else◌, List, [], ◌∷◌, slice_index, Option, Some, None, Result, Ok, Err}
use Rattle.std.specs.Int.{w16, w32, from_be_bytes}
use Rattle.disk_base.specs.declared.command.DataOut.{DataOut}
use Rattle.disk_base.specs.declared.command.DataOut.TheVariants.{Given}
use Rattle.sense_data.specs.declared.sense.Sense.{Sense}
use Rattle.sense_data.specs.Sense.{sense_of}
use Rattle.reservations.specs.declared.request.Action.{Action}
use Rattle.reservations.specs.declared.request.Action.TheVariants.{Register, Reserve, Release, Clear, Preempt, RegisterAndIgnoreExistingKey}
use Rattle.reservations.specs.declared.request.Request.{Request}
use Rattle.reservations.specs.declared.request.Parameters.{Parameters}
use Rattle.reservations.specs.Desk.{is_type}
use Rattle.reservations.specs.Parameters.{is_set, parameters_of, refuses}

-- NACA is set in the control byte, the tenth (SAM-4, CONTROL byte)
abbrev pub has_naca : List ℕ → Bool
has_naca cdb = is_set (slice_index cdb 9) 2

-- the low five bits of the second byte; those above them aren't looked at
abbrev pub service_action : List ℕ → ℕ
service_action cdb = slice_index cdb 1 % 32

-- ALLOCATION LENGTH of PERSISTENT RESERVE IN
abbrev pub allocation : List ℕ → ℕ
allocation cdb = from_be_bytes w16 (slice_index cdb 7 ∷ slice_index cdb 8 ∷ [])

-- PARAMETER LIST LENGTH of PERSISTENT RESERVE OUT
abbrev pub list_length : List ℕ → ℕ
list_length cdb = from_be_bytes w32 (slice_index cdb 5 ∷ slice_index cdb 6 ∷ slice_index cdb 7 ∷ slice_index cdb 8 ∷ [])

-- the service actions that are served
abbrev pub action_of : ℕ → Option Action
action_of n =
    if n == 0 then Some Register else
    if n == 1 then Some Reserve else
    if n == 2 then Some Release else
    if n == 3 then Some Clear else
    if n == 4 then Some Preempt else
    if n == 6 then Some RegisterAndIgnoreExistingKey else None

-- RESERVE, RELEASE and PREEMPT name a type
abbrev pub names_type : Action → Bool
names_type Reserve = true
names_type Release = true
names_type Preempt = true
names_type other = false

-- the bytes that were given; a fill and nothing are none
abbrev pub given : DataOut → List ℕ
given (Given bytes) = bytes
given other = []

-- INVALID FIELD IN CDB, PARAMETER LIST LENGTH ERROR and INVALID FIELD IN PARAMETER LIST
abbrev pub invalid_field_in_cdb : Sense
invalid_field_in_cdb = sense_of 5 0x24 0x00

abbrev pub parameter_list_length_error : Sense
parameter_list_length_error = sense_of 5 0x1A 0x00

abbrev pub invalid_field_in_parameter_list : Sense
invalid_field_in_parameter_list = sense_of 5 0x26 0x00

-- the checks of the parameter list
abbrev pub request_with : Action → ℕ → Option Parameters → Result Request Sense
request_with action kind None = Err parameter_list_length_error
request_with action kind (Some p) =
    if refuses action p then Err invalid_field_in_parameter_list else
    Ok (record { action = action; kind = kind; key = p.key; action_key = p.action_key })

-- the checks of an action in their order, or what it asks for
abbrev pub checked_request : Option Action → List ℕ → List ℕ → Result Request Sense
checked_request None cdb bytes = Err invalid_field_in_cdb
checked_request (Some action) cdb bytes =
    if has_naca cdb || (names_type action && not (is_type (slice_index cdb 2))) then Err invalid_field_in_cdb else
    if not (list_length cdb == 24) then Err parameter_list_length_error else
    request_with action (slice_index cdb 2) (parameters_of bytes)

-- what PERSISTENT RESERVE OUT asks for, or the sense data of the first check that fails
abbrev pub request_of : List ℕ → DataOut → Result Request Sense
request_of cdb sent = checked_request (action_of (service_action cdb)) cdb (given sent)
