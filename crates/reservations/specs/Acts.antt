-- What the service actions of PERSISTENT RESERVE OUT do, each on the desk as it is before (SPC-4, persistent reservations).
use Rattle.std.specs.Prelude.{ℕ, ◌+◌, ◌-◌, ◌%◌, ◌^◌, ◌==◌, ◌&&◌, Bool, true, false, not, if◌then◌else◌, map, List, replicate, slice_index, slice_index_or, slice_set, Option, Some, None}
use Rattle.std.specs.List.{list_any, range_with_len}
use Rattle.std.specs.Option.{option_map_or}
use Rattle.sense_data.specs.Sense.{sense_of}
use Rattle.sense_data.specs.Attentions.{raised_where}
use Rattle.reservations.specs.declared.request.Action.{Action}
use Rattle.reservations.specs.declared.request.Action.TheVariants.{Register, Reserve, Release, Clear, Preempt, RegisterAndIgnoreExistingKey}
use Rattle.reservations.specs.declared.request.Request.{Request}
use Rattle.reservations.specs.declared.state.Holder.{Holder}
use Rattle.reservations.specs.declared.state.State.{State}
use Rattle.reservations.specs.declared.verdict.Rule.TheVariants as rule
use Rattle.reservations.specs.Desk.{is_for_registrants, key_of, registrations_preempted, reservations_preempted, reservations_released}
use Rattle.reservations.specs.Verdicts.{Judgement, denied, done, refused}

-- one more change of the registrations, after 2^32 from the beginning
abbrev pub counted : State → State
counted d = record d { generation = (d.generation + 1) % 2 ^ 32 }

-- marks of the initiators, from the first on, by the places of their keys
abbrev pub marked : (ℕ → Bool) → List Bool
marked test = map test (range_with_len 0 8)

-- the registrants other than this initiator
abbrev pub other_registrants : List ℕ → ℕ → List Bool
other_registrants keys i = marked (λ place. not (place == i - 1) && not (slice_index keys place == 0))

-- the others whose key is this one
abbrev pub others_with_key : List ℕ → ℕ → ℕ → List Bool
others_with_key keys i key = marked (λ place. not (place == i - 1) && slice_index keys place == key)

-- a reservation ends by its holder: where each registrant had what the holder had, the others are told
abbrev pub dropped : State → ℕ → ℕ → State
dropped d i kind =
    record d {
      holder = None;
      waiting = if is_for_registrants kind then raised_where (other_registrants d.keys i) reservations_released d.waiting else d.waiting;
    }

-- where an initiator that holds the unit is no longer registered, the reservation ends
abbrev pub dropped_by : Option Holder → State → ℕ → State
dropped_by None d i = d
dropped_by (Some h) d i = if h.initiator == i then dropped d i h.kind else d

-- REGISTER, and REGISTER AND IGNORE EXISTING KEY: the key becomes this one, or goes where it is 0
abbrev pub registered : State → ℕ → ℕ → State
registered d i key =
    let rest = if key == 0 then dropped_by d.holder d i else d in
    counted (record rest { keys = slice_set d.keys (i - 1) key })

-- RESERVE: the unit is free, or it is held so already, or it is held otherwise
abbrev pub reserved : Option Holder → State → ℕ → ℕ → Judgement
reserved None d i kind = record { verdict = done rule.Reserve; desk = record d { holder = Some (record { initiator = i; kind = kind }) } }
reserved (Some h) d i kind =
    if h.initiator == i && h.kind == kind then record { verdict = done rule.Reserve; desk = d } else
    record { verdict = denied (rule.DenyHolder h.initiator h.kind); desk = d }

-- RELEASE: there is nothing of this initiator's to release, or it is of another type, or it ends
abbrev pub released : Option Holder → State → ℕ → ℕ → Judgement
released None d i kind = record { verdict = done rule.Release; desk = d }
released (Some h) d i kind =
    if not (h.initiator == i) then record { verdict = done rule.Release; desk = d } else
    if not (h.kind == kind) then record { verdict = refused (sense_of 5 0x26 0x04); desk = d } else
    record { verdict = done rule.Release; desk = dropped d i kind }

-- CLEAR: no key and no reservation is left, and the others are told
abbrev pub cleared : State → ℕ → State
cleared d i =
    counted (record d {
      keys = replicate 8 0;
      holder = None;
      waiting = raised_where (other_registrants d.keys i) reservations_preempted d.waiting;
    })

-- whether the holder has this key
abbrev pub holder_has : State → ℕ → Bool
holder_has d key = option_map_or (λ h. key_of d h.initiator == key) d.holder false

-- the keys without those of the marked initiators
abbrev pub taken : List ℕ → List Bool → List ℕ
taken keys marks = map (λ place. if slice_index_or marks place false then 0 else slice_index keys place) (range_with_len 0 8)

-- PREEMPT: the others with this key lose it and are told, and what a holder with it had goes to this initiator
abbrev pub preempted : State → ℕ → ℕ → ℕ → State
preempted d i kind key =
    let others = others_with_key d.keys i key in
    counted (record d {
      keys = taken d.keys others;
      holder = if holder_has d key then Some (record { initiator = i; kind = kind }) else d.holder;
      waiting = raised_where others registrations_preempted d.waiting;
    })

-- by the initiator's key, the key that it states, and whether somebody has the key that is to be preempted
abbrev pub right_keys : Action → ℕ → ℕ → Bool → Bool
right_keys Register own stated named = stated == own
right_keys RegisterAndIgnoreExistingKey own stated named = true
right_keys Preempt own stated named = not (own == 0) && stated == own && named
right_keys other own stated named = not (own == 0) && stated == own

-- whether somebody has this key
abbrev pub is_anyones : List ℕ → ℕ → Bool
is_anyones keys key = list_any (λ k. k == key) keys

-- whether the keys of a request are the right ones: the initiator's own, and for PREEMPT one that somebody has
abbrev pub has_right_keys : State → ℕ → Request → Bool
has_right_keys d i r = right_keys r.action (key_of d i) r.key (is_anyones d.keys r.action_key)

-- what an action does
abbrev pub acted : Action → State → ℕ → Request → Judgement
acted Register d i r = record { verdict = done rule.Register; desk = registered d i r.action_key }
acted RegisterAndIgnoreExistingKey d i r = record { verdict = done rule.Register; desk = registered d i r.action_key }
acted Reserve d i r = reserved d.holder d i r.kind
acted Release d i r = released d.holder d i r.kind
acted Clear d i r = record { verdict = done rule.Clear; desk = cleared d i }
acted Preempt d i r = record { verdict = done rule.Preempt; desk = preempted d i r.kind r.action_key }
