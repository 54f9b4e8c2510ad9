-- What users may count on.
use Rattle.std.specs.Prelude.{◌≡◌, ◌≢◌, ℕ, ◌*◌, ◌==◌, ◌&&◌, ◌||◌, ◌⊎◌, Bool, true, false, not, IsTrue, List, [], ◌∷◌, ◌++◌, length, filter, take, slice_index, Some}
use Rattle.std.specs.List.{flat_map}
use Rattle.std.specs.Int.{w32, w64, to_be_bytes}
use Rattle.disk_base.specs.declared.command.DataOut.{DataOut}
use Rattle.sense_data.specs.declared.attention.Attention.{Attention}
use Rattle.sense_data.specs.declared.sense.Sense.{Sense}
use Rattle.sense_data.specs.Attentions.{attention_sense, waiting_for, waits_in}
use Rattle.reservations.specs.declared.state.Holder.{Holder}
use Rattle.reservations.specs.declared.state.State.{State}
use Rattle.reservations.specs.declared.verdict.Rule.{Rule}
use Rattle.reservations.specs.declared.verdict.Rule.TheVariants as rule
use Rattle.reservations.specs.declared.verdict.Verdict.{Verdict}
use Rattle.reservations.specs.declared.verdict.Verdict.TheVariants.{Admit, Answered}
use Rattle.reservations.specs.Conflict.{is_reading, is_writing}
use Rattle.reservations.specs.Desk.{IsInitiator, is_exclusive_access, is_for_registrants, is_registered, is_type, key_of, registrations_preempted, reservations_preempted}
use Rattle.reservations.specs.Judged.{judged}
use Rattle.reservations.specs.Request.{allocation}
use Rattle.reservations.specs.Runs.{IsReached}
use Rattle.reservations.specs.Verdicts.{done, shown, told}

-- an initiator is kept out by a reservation of another: not one that is registered, where the type is for registrants
pub record IsStranger (d : State) (h : Holder) (i : ℕ) : Type 0 where
  pub held : d.holder ≡ Some h
  pub another : (h.initiator == i) ≡ false
  pub no_right : (is_for_registrants h.kind && is_registered d i) ≡ false

-- while one initiator holds the unit, no write of another is admitted, unless the type is for registrants and it is one
abbrev pub WritesAreKeptOut : Type 0
WritesAreKeptOut = (d : State) (h : Holder) (i : ℕ) (cdb : List ℕ) (sent : DataOut) → IsStranger d h i
    → is_writing (slice_index cdb 0) ≡ true → (judged d i cdb sent).verdict ≢ Admit

-- and no read either, where the type is of exclusive access
abbrev pub ReadsAreKeptOut : Type 0
ReadsAreKeptOut = (d : State) (h : Holder) (i : ℕ) (cdb : List ℕ) (sent : DataOut) → IsStranger d h i
    → is_reading (slice_index cdb 0) ≡ true → is_exclusive_access h.kind ≡ true → (judged d i cdb sent).verdict ≢ Admit

-- whatever arrived and was cut, a holder is registered, with a type
abbrev pub HoldersAreRegistered : Type 0
HoldersAreRegistered = (d : State) (h : Holder) → IsReached d → d.holder ≡ Some h
    → IsInitiator h.initiator × IsTrue (is_registered d h.initiator) × IsTrue (is_type h.kind)

-- by CLEAR or by PREEMPT
abbrev pub IsClearOrPreempt : Verdict → Type 0
IsClearOrPreempt v = (v ≡ done rule.Clear) ⊎ (v ≡ done rule.Preempt)

-- an attention waits that says that another took the registration or the reservation
abbrev pub is_warned : State → ℕ → Bool
is_warned d j = waits_in reservations_preempted (waiting_for d.waiting j) || waits_in registrations_preempted (waiting_for d.waiting j)

-- a key stays; or its own initiator registers; or it goes by a registrant's CLEAR or PREEMPT, of which another is warned
abbrev pub KeyGoesRight : State → ℕ → Verdict → State → ℕ → Type 0
KeyGoesRight d i verdict after j =
    (key_of after j ≡ key_of d j)
    ⊎ ((j ≡ i) × (verdict ≡ done rule.Register))
    ⊎ ((key_of after j ≡ 0) × IsTrue (is_registered d i) × IsClearOrPreempt verdict × ((j == i) ≡ false → IsTrue (is_warned after j)))

abbrev pub KeysAreTheirOwn : Type 0
KeysAreTheirOwn = (d : State) (i j : ℕ) (cdb : List ℕ) (sent : DataOut) → IsReached d → IsInitiator i → IsInitiator j
    → KeyGoesRight d i (judged d i cdb sent).verdict (judged d i cdb sent).desk j

-- a reservation stays, or goes by its holder, or by a registrant's CLEAR or PREEMPT
abbrev pub ReservationGoesRight : State → Holder → ℕ → Verdict → State → Type 0
ReservationGoesRight d h i verdict after =
    (after.holder ≡ Some h) ⊎ (h.initiator ≡ i) ⊎ (IsTrue (is_registered d i) × IsClearOrPreempt verdict)

abbrev pub ReservationsAreTheirOwn : Type 0
ReservationsAreTheirOwn = (d : State) (h : Holder) (i : ℕ) (cdb : List ℕ) (sent : DataOut) → d.holder ≡ Some h
    → ReservationGoesRight d h i (judged d i cdb sent).verdict (judged d i cdb sent).desk

-- whether a verdict denies, refuses, shows or admits
abbrev pub is_quiet_rule : Rule → Bool
is_quiet_rule rule.Field = true
is_quiet_rule rule.Keys = true
is_quiet_rule rule.Reservation = true
is_quiet_rule rule.DenyKey = true
is_quiet_rule (rule.DenyHolder h kind) = true
is_quiet_rule other = false

abbrev pub is_quiet : Verdict → Bool
is_quiet Admit = true
is_quiet (Answered rule reply page) = is_quiet_rule rule

-- what is denied or refused, what only asks, and what is admitted changes nothing
abbrev pub AskingChangesNothing : Type 0
AskingChangesNothing = (d : State) (i : ℕ) (cdb : List ℕ) (sent : DataOut)
    → is_quiet (judged d i cdb sent).verdict ≡ true → (judged d i cdb sent).desk ≡ d

-- an attention that is told was the first that waited; the rest waits on, and it is not among them
abbrev pub IsToldOnce : State → ℕ → Sense → State → Type 0
IsToldOnce d i sense after =
    (a : Attention) × (sense ≡ attention_sense a) × (waiting_for d.waiting i ≡ a ∷ waiting_for after.waiting i)
    × (waits_in a (waiting_for after.waiting i) ≡ false) × (after.keys ≡ d.keys) × (after.holder ≡ d.holder) × (after.generation ≡ d.generation)

abbrev pub AttentionsAreToldOnce : Type 0
AttentionsAreToldOnce = (d : State) (i : ℕ) (cdb : List ℕ) (sent : DataOut) (sense : Sense) → IsReached d → IsInitiator i
    → (judged d i cdb sent).verdict ≡ told sense → IsToldOnce d i sense (judged d i cdb sent).desk

-- READ KEYS shows, up to the allocation length, the generation and each key that isn't 0 once, by initiator
abbrev pub KeysAreShown : Type 0
KeysAreShown = (d : State) (i : ℕ) (cdb : List ℕ) (sent : DataOut) (page : List ℕ)
    → (judged d i cdb sent).verdict ≡ shown rule.Keys page
    → let keys = filter (λ key. not (key == 0)) d.keys in
    page ≡ take (allocation cdb) (to_be_bytes w32 d.generation ++ to_be_bytes w32 (8 * length keys) ++ flat_map (to_be_bytes w64) keys)

-- READ RESERVATION shows, up to the allocation length, the holder's key and type
abbrev pub ReservationsAreShown : Type 0
ReservationsAreShown = (d : State) (h : Holder) (i : ℕ) (cdb : List ℕ) (sent : DataOut) (page : List ℕ) → d.holder ≡ Some h
    → (judged d i cdb sent).verdict ≡ shown rule.Reservation page
    → page ≡ take (allocation cdb) (to_be_bytes w32 d.generation ++ (0 ∷ 0 ∷ 0 ∷ 16 ∷ []) ++ to_be_bytes w64 (key_of d h.initiator)
    ++ (0 ∷ 0 ∷ 0 ∷ 0 ∷ 0 ∷ h.kind ∷ 0 ∷ 0 ∷ []))
