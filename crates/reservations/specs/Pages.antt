-- What PERSISTENT RESERVE IN gives (SPC-4, READ KEYS service action, READ RESERVATION service action).
use Rattle.std.specs.Prelude.{ℕ, ◌*◌, ◌==◌, not, List, [], ◌∷◌, ◌++◌, length, replicate, filter, Option, Some, None}
use Rattle.std.specs.List.{flat_map}
use Rattle.std.specs.Int.{w32, w64, to_be_bytes}
use Rattle.reservations.specs.declared.state.Holder.{Holder}
use Rattle.reservations.specs.declared.state.State.{State}
use Rattle.reservations.specs.Desk.{key_of}

-- the keys of those that are registered, by initiator
abbrev pub registered_keys : List ℕ → List ℕ
registered_keys keys = filter (λ key. not (key == 0)) keys

-- the generation, how many bytes of keys follow, and the keys
abbrev pub keys_page : State → List ℕ
keys_page d =
    to_be_bytes w32 d.generation ++ to_be_bytes w32 (8 * length (registered_keys d.keys)) ++ flat_map (to_be_bytes w64) (registered_keys d.keys)

-- how many bytes follow: the holder's key, five bytes that are obsolete or reserved, scope and type, two bytes that are obsolete
abbrev pub holder_bytes : Option Holder → State → List ℕ
holder_bytes None d = to_be_bytes w32 0
holder_bytes (Some h) d = to_be_bytes w32 16 ++ to_be_bytes w64 (key_of d h.initiator) ++ replicate 5 0 ++ h.kind ∷ 0 ∷ 0 ∷ []

-- the generation, and the reservation where there is one
abbrev pub reservation_page : State → List ℕ
reservation_page d = to_be_bytes w32 d.generation ++ holder_bytes d.holder d
