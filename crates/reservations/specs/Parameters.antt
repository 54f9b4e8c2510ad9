-- The parameter list of PERSISTENT RESERVE OUT (SPC-4, basic PERSISTENT RESERVE OUT parameter list).
use Rattle.std.specs.Prelude.{ℕ, ◌+◌, ◌/◌, ◌%◌, ◌^◌, ◌==◌, ◌&&◌, ◌||◌, Bool, true, false, if◌then◌else◌, List, [], ◌∷◌, length, slice_index, Option, Some, None}
use Rattle.std.specs.Int.{w64, from_be_bytes}
use Rattle.reservations.specs.declared.request.Action.{Action}
use Rattle.reservations.specs.declared.request.Action.TheVariants.{Preempt}
use Rattle.reservations.specs.declared.request.Parameters.{Parameters}

-- a bit of a byte, the lowest one being 0
abbrev pub is_set : ℕ → ℕ → Bool
is_set byte k = byte / 2 ^ k % 2 == 1

-- a key in a parameter list, high byte first
abbrev pub key_at : List ℕ → ℕ → ℕ
key_at bytes at = from_be_bytes w64 (slice_index bytes at ∷ slice_index bytes (at + 1) ∷ slice_index bytes (at + 2) ∷ slice_index bytes (at + 3)
    ∷ slice_index bytes (at + 4) ∷ slice_index bytes (at + 5) ∷ slice_index bytes (at + 6) ∷ slice_index bytes (at + 7) ∷ [])

-- RESERVATION KEY, SERVICE ACTION RESERVATION KEY and the byte of flags, where there are 24 bytes
abbrev pub parameters_of : List ℕ → Option Parameters
parameters_of bytes =
    if length bytes == 24 then Some (record { key = key_at bytes 0; action_key = key_at bytes 8; flags = slice_index bytes 20 }) else None

abbrev pub is_preempt : Action → Bool
is_preempt Preempt = true
is_preempt other = false

-- APTPL or SPEC_I_PT is asked for, or PREEMPT names the key 0
abbrev pub refuses : Action → Parameters → Bool
refuses action p = is_set p.flags 0 || is_set p.flags 3 || (is_preempt action && p.action_key == 0)
