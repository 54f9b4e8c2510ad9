-- What the desk keeps: who is registered, who holds the unit, and what waits to be told (SPC-4, reservations).
use Rattle.std.specs.Prelude.{◌≡◌, ℕ, ◌-◌, ◌^◌, ◌<◌, ◌≤◌, ◌==◌, ◌||◌, Bool, false, not, IsTrue, List, [], ◌∷◌, length, replicate, slice_index, Some, None}
use Rattle.std.specs.Option.{option_map_or}
use Rattle.sense_data.specs.declared.attention.Attention.{Attention}
use Rattle.sense_data.specs.Attentions.{AreAmong, attention, none_waiting, waiting_for}
use Rattle.reservations.specs.declared.state.Holder.{Holder}
use Rattle.reservations.specs.declared.state.State.{State}

-- nobody is registered, nobody holds the unit, and nothing waits
abbrev pub desk_at_start : State
desk_at_start = record { keys = replicate 8 0; holder = None; generation = 0; waiting = none_waiting }

-- the reservation key of an initiator, 0 where it isn't registered
abbrev pub key_of : State → ℕ → ℕ
key_of d i = slice_index d.keys (i - 1)

-- whether an initiator is registered
abbrev pub is_registered : State → ℕ → Bool
is_registered d i = not (key_of d i == 0)

-- whether the reservation is this initiator's
abbrev pub is_holder : State → ℕ → Bool
is_holder d i = option_map_or (λ h. h.initiator == i) d.holder false

-- the types: write exclusive, exclusive access, and either for registrants only
abbrev pub is_type : ℕ → Bool
is_type kind = kind == 1 || kind == 3 || kind == 5 || kind == 6

-- the types under which each registrant has what the holder has
abbrev pub is_for_registrants : ℕ → Bool
is_for_registrants kind = kind == 5 || kind == 6

-- the types under which others may not read either
abbrev pub is_exclusive_access : ℕ → Bool
is_exclusive_access kind = kind == 3 || kind == 6

-- what the desk has to tell: RESERVATIONS PREEMPTED, RESERVATIONS RELEASED and REGISTRATIONS PREEMPTED
abbrev pub reservations_preempted : Attention
reservations_preempted = attention 0x2A 0x03

abbrev pub reservations_released : Attention
reservations_released = attention 0x2A 0x04

abbrev pub registrations_preempted : Attention
registrations_preempted = attention 0x2A 0x05

abbrev pub known_attentions : List Attention
known_attentions = reservations_preempted ∷ reservations_released ∷ registrations_preempted ∷ []

-- for each initiator none waits twice, and only these three kinds wait
abbrev pub KnownWait : List (List Attention) → Type 0
KnownWait waiting = (i : ℕ) → AreAmong known_attentions (waiting_for waiting i)

-- the initiators are numbered from 1 to 8
abbrev pub IsInitiator : ℕ → Type 0
IsInitiator i = (1 ≤ i) × (i ≤ 8)

-- what a desk keeps
pub record IsDesk (d : State) : Type 0 where
  pub eight_keys : length d.keys ≡ 8
  pub keys_fit : (k : ℕ) → k < 8 → slice_index d.keys k < 2 ^ 64
  pub holder_registered : (h : Holder) → d.holder ≡ Some h → IsInitiator h.initiator × IsTrue (is_registered d h.initiator)
  pub holder_type : (h : Holder) → d.holder ≡ Some h → IsTrue (is_type h.kind)
  pub generation_fits : d.generation < 2 ^ 32
  pub eight_lists : length d.waiting ≡ 8
  pub known_wait : KnownWait d.waiting
