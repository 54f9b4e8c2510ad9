-- Bytes of sense data, and lists of attentions, by examples.
use Rattle.std.proofs.Common.{◌≡◌, true, false, [], ◌∷◌, Some, None, refl}
use Rattle.sense_data.specs.declared.sense.Sense.{Sense}
use Rattle.sense_data.specs.Sense.{sense_of, sense_bytes}
use Rattle.sense_data.specs.Attentions.{Waiting, attention, waiting_for, raised, raised_where, first_taken, first_of, none_waiting, power_on_waiting, none_twice}

power_on-bytes : sense_bytes (sense_of 6 0x29 0x01) ≡ 0x70 ∷ 0 ∷ 6 ∷ 0 ∷ 0 ∷ 0 ∷ 0 ∷ 0x0A ∷ 0 ∷ 0 ∷ 0 ∷ 0 ∷ 0x29 ∷ 1 ∷ 0 ∷ 0 ∷ 0 ∷ 0 ∷ []
power_on-bytes = refl

-- an unrecovered read error at block 911, and no spare for block 3
unrecovered : Sense
unrecovered = record { key = 3; information = Some 911; specific = 0; asc = 0x11; ascq = 0 }

unrecovered-bytes : sense_bytes unrecovered ≡ 0xF0 ∷ 0 ∷ 3 ∷ 0 ∷ 0 ∷ 3 ∷ 0x8F ∷ 0x0A ∷ 0 ∷ 0 ∷ 0 ∷ 0 ∷ 0x11 ∷ 0 ∷ 0 ∷ 0 ∷ 0 ∷ 0 ∷ []
unfolding unrecovered
unrecovered-bytes = refl

-- an address of 0 is valid, and differs from none by the valid bit alone
at_zero : Sense
at_zero = record { key = 3; information = Some 0; specific = 0; asc = 0x11; ascq = 0 }

at_zero-bytes : sense_bytes at_zero ≡ 0xF0 ∷ 0 ∷ 3 ∷ 0 ∷ 0 ∷ 0 ∷ 0 ∷ 0x0A ∷ 0 ∷ 0 ∷ 0 ∷ 0 ∷ 0x11 ∷ 0 ∷ 0 ∷ 0 ∷ 0 ∷ 0 ∷ []
unfolding at_zero
at_zero-bytes = refl

-- after a reset and changed mode parameters, told to initiator 3
told : Waiting
told = raised (raised power_on_waiting 3 (attention 0x29 0x03)) 3 (attention 0x2A 0x01)

told-in_order : waiting_for told 3 ≡ attention 0x29 0x01 ∷ attention 0x29 0x03 ∷ attention 0x2A 0x01 ∷ []
unfolding told
told-in_order = refl

told-to_one_alone : waiting_for told 4 ≡ attention 0x29 0x01 ∷ []
unfolding told
told-to_one_alone = refl

told-once : waiting_for (raised told 3 (attention 0x29 0x03)) 3 ≡ waiting_for told 3
unfolding told
told-once = refl

told-first : first_of (first_taken told 3) 3 ≡ Some (sense_of 6 0x29 0x03)
unfolding told
told-first = refl

-- raised for those that are marked, and for nobody else
marked : waiting_for (raised_where (false ∷ true ∷ false ∷ []) (attention 0x2A 0x04) none_waiting) 2 ≡ attention 0x2A 0x04 ∷ []
marked = refl

not-marked : waiting_for (raised_where (false ∷ true ∷ false ∷ []) (attention 0x2A 0x04) none_waiting) 3 ≡ []
not-marked = refl

marked-once : raised_where (true ∷ []) (attention 0x29 0x01) power_on_waiting ≡ power_on_waiting
marked-once = refl

nothing-first : first_of (first_taken power_on_waiting 8) 8 ≡ None
nothing-first = refl

nothing-waits : first_of none_waiting 1 ≡ None
nothing-waits = refl

twice : none_twice (attention 0x29 0x01 ∷ attention 0x2A 0x01 ∷ attention 0x29 0x01 ∷ []) ≡ false
twice = refl
