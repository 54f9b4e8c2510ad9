-- The table of conflicts whole, and judgements by examples.
use Rattle.std.proofs.Common.{◌≡◌, ℕ, Bool, true, false, List, [], ◌∷◌, ◌++◌, map, filter, replicate, Some, refl}
use Rattle.std.specs.List.{range_with_len}
use Rattle.disk_base.specs.declared.command.DataOut.{DataOut}
use Rattle.disk_base.specs.declared.command.DataOut.TheVariants.{Given, Nothing, Fill}
use Rattle.sense_data.specs.Sense.{sense_of}
use Rattle.sense_data.specs.Attentions.{waiting_for}
use Rattle.reservations.specs.declared.state.State.{State}
use Rattle.reservations.specs.declared.verdict.Rule.TheVariants as rule
use Rattle.reservations.specs.declared.verdict.Verdict.TheVariants.{Admit}
use Rattle.reservations.specs.Conflict.{conflicts, is_reading, is_writing}
use Rattle.reservations.specs.Desk.{desk_at_start, key_of, registrations_preempted}
use Rattle.reservations.specs.Judged.{judged}
use Rattle.reservations.specs.Verdicts.{denied, refused, shown, told}

-- of the operation codes these read and these write
reading_codes : filter is_reading (range_with_len 0 256) ≡ 0x1A ∷ 0x28 ∷ 0x2F ∷ 0x37 ∷ 0x5A ∷ 0x88 ∷ []
reading_codes = refl

writing_codes : filter is_writing (range_with_len 0 256) ≡ 0x04 ∷ 0x07 ∷ 0x15 ∷ 0x2A ∷ 0x2E ∷ 0x35 ∷ 0x55 ∷ 0x8A ∷ 0x91 ∷ []
writing_codes = refl

types : List ℕ
types = 1 ∷ 3 ∷ 5 ∷ 6 ∷ []

-- the table: by type, a read and a write of one that isn't registered, and of one that is
row : ℕ → List Bool
row kind = conflicts 0x28 kind false ∷ conflicts 0x28 kind true ∷ conflicts 0x2A kind false ∷ conflicts 0x2A kind true ∷ []

the-table : map row types
    ≡ (false ∷ false ∷ true ∷ true ∷ []) ∷ (true ∷ true ∷ true ∷ true ∷ [])
    ∷ (false ∷ false ∷ true ∷ false ∷ []) ∷ (true ∷ false ∷ true ∷ false ∷ []) ∷ []
unfolding types row
the-table = refl

neither-conflicts : map (λ kind. conflicts 0x00 kind false) types ≡ false ∷ false ∷ false ∷ false ∷ []
unfolding types
neither-conflicts = refl

-- PERSISTENT RESERVE OUT of an action and a type, with the last bytes of two keys
out : ℕ → ℕ → List ℕ
out action kind = 0x5F ∷ action ∷ kind ∷ 0 ∷ 0 ∷ 0 ∷ 0 ∷ 0 ∷ 24 ∷ 0 ∷ []

keys : ℕ → ℕ → DataOut
keys own other = Given (replicate 7 0 ++ own ∷ replicate 7 0 ++ other ∷ replicate 8 0)

read_keys : List ℕ
read_keys = 0x5E ∷ 0 ∷ 0 ∷ 0 ∷ 0 ∷ 0 ∷ 0 ∷ 0 ∷ 255 ∷ 0 ∷ []

ten : ℕ → List ℕ
ten code = code ∷ 0 ∷ 0 ∷ 0 ∷ 0 ∷ 0 ∷ 0 ∷ 0 ∷ 1 ∷ 0 ∷ []

-- initiator 1 registers with the key 10, and then reserves; initiator 2 sees the key
registered : State
unfolding out keys
registered = (judged desk_at_start 1 (out 0 0) (keys 0 10)).desk

held : State
unfolding out keys
held = (judged registered 1 (out 1 1) (keys 10 0)).desk

key-shown : (judged registered 2 read_keys Nothing).verdict ≡ shown rule.Keys (0 ∷ 0 ∷ 0 ∷ 1 ∷ 0 ∷ 0 ∷ 0 ∷ 8 ∷ 0 ∷ 0 ∷ 0 ∷ 0 ∷ 0 ∷ 0 ∷ 0 ∷ 10 ∷ [])
unfolding registered read_keys out keys
key-shown = refl

write-denied : (judged held 2 (ten 0x2A) (Fill 17)).verdict ≡ denied (rule.DenyHolder 1 1)
unfolding held registered ten out keys
write-denied = refl

read-admitted : (judged held 2 (ten 0x28) Nothing).verdict ≡ Admit
unfolding held registered ten out keys
read-admitted = refl

own-write-admitted : (judged held 1 (ten 0x2A) (Fill 17)).verdict ≡ Admit
unfolding held registered ten out keys
own-write-admitted = refl

-- a fill isn't given, and one that isn't registered may not reserve
fill-refused : (judged desk_at_start 1 (out 0 0) (Fill 0)).verdict ≡ refused (sense_of 5 0x1A 0)
unfolding out
fill-refused = refl

stranger-denied : (judged held 2 (out 1 1) (keys 0 0)).verdict ≡ denied rule.DenyKey
unfolding held registered out keys
stranger-denied = refl

-- initiator 2 registers with the key 20 and preempts the key 10: initiator 1 is told once, and initiator 2 holds the unit
preempted : State
unfolding held registered out keys
preempted = (judged (judged held 2 (out 6 0) (keys 0 20)).desk 2 (out 4 3) (keys 20 10)).desk

key-taken : key_of preempted 1 ≡ 0
unfolding preempted held registered out keys
key-taken = refl

holder-changed : preempted.holder ≡ Some (record { initiator = 2; kind = 3 })
unfolding preempted held registered out keys
holder-changed = refl

victim-warned : waiting_for preempted.waiting 1 ≡ registrations_preempted ∷ []
unfolding preempted held registered out keys
victim-warned = refl

victim-told : (judged preempted 1 read_keys Nothing).verdict ≡ told (sense_of 6 0x2A 0x05)
unfolding preempted held registered read_keys out keys
victim-told = refl

inquiry-admitted : (judged preempted 1 (0x12 ∷ 0 ∷ 0 ∷ 0 ∷ 36 ∷ 0 ∷ []) Nothing).verdict ≡ Admit
unfolding preempted held registered out keys
inquiry-admitted = refl
