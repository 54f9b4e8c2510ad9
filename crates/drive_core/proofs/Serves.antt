-- What is served asks for what is served.
use Rattle.std.proofs.Common.{◌≡◌, ℕ, Bool, true, false, not, cond, List, Option, Some, None, refl}
use Rattle.std.specs.Prelude.{◌||◌, ◌==◌, slice_index, Result, Err}
use Rattle.std.specs.Option.{option_map_or}
use Rattle.disk_base.specs.declared.command.DataOut.{DataOut}
use Rattle.sense_data.specs.declared.sense.Sense.{Sense}
use Rattle.sense_data.specs.Sense.{sense_of}
use Rattle.cdb_reader.specs.declared.operation.Operation.{Operation}
use Rattle.cdb_reader.specs.declared.operation.Operation.TheVariants as operation
use Rattle.cdb_reader.specs.Fields.{naca}
use Rattle.cdb_reader.specs.Operation.{operation_of, refuses_field, reaches_past}
use Rattle.cdb_reader.specs.Read.{asked, checked, read_of, refuses_blocks, refuses_list_length}
use Rattle.cdb_reader.specs.Request.{Request}
use Rattle.drive_core.specs.Served.{is_served, is_served_cdb, is_served_code}

-- a refusal is served
chain : (a b c d e : Bool) (r : Result Request Sense) → is_served r ≡ true
    → is_served (cond a (Err (sense_of 5 0x24 0x00)) (cond b (Err (sense_of 5 0x24 0x00)) (cond c (Err (sense_of 5 0x21 0x00)) (cond d (Err (sense_of 5 0x24 0x00))
    (cond e (Err (sense_of 5 0x1A 0x00)) r))))) ≡ true
chain true b c d e r served = refl
chain false true c d e r served = refl
chain false false true d e r served = refl
chain false false false true e r served = refl
chain false false false false true r served = refl
chain false false false false false r served = served

-- the operations that are served
abbrev is_served_operation : Option Operation → Bool
is_served_operation (Some operation.ReassignBlocks) = false
is_served_operation other = true

-- each asks for what is served
operation_asks : (o : Operation) (bs : List ℕ) (sent : DataOut) (capacity : ℕ) → is_served_operation (Some o) ≡ true → is_served (asked o bs sent capacity) ≡ true
operation_asks operation.ReassignBlocks bs sent capacity served = absurd (cc)
operation_asks other bs sent capacity served = refl

read_served : (o : Option Operation) (bs : List ℕ) (sent : DataOut) (capacity : ℕ) → is_served_operation o ≡ true
    → is_served (option_map_or (λ operation. checked operation bs sent capacity) o (Err (sense_of 5 0x20 0x00))) ≡ true
read_served None bs sent capacity served = refl
read_served (Some o) bs sent capacity served =
    chain (naca bs) (refuses_field o bs) (reaches_past o bs capacity) (refuses_blocks o bs sent) (refuses_list_length o bs sent) (asked o bs sent capacity)
    (operation_asks o bs sent capacity served)

-- a code picks an operation, or passes to the next
pick : (b : Bool) (o rest : Option Operation) → is_served_operation o ≡ true → is_served_operation rest ≡ true → is_served_operation (cond b o rest) ≡ true
pick true o rest here later = here
pick false o rest here later = later

pass : (b : Bool) (o rest : Option Operation) → b ≡ false → is_served_operation rest ≡ true → is_served_operation (cond b o rest) ≡ true
pass true o rest is later = absurd (cc)
pass false o rest is later = later

isnt : (b : Bool) → not b ≡ true → b ≡ false
isnt true is = absurd (cc)
isnt false is = refl

operations : (code : ℕ) → is_served_code code ≡ true → is_served_operation (operation_of code) ≡ true
unfolding operation_of
operations code served =
    pick (code == 0x00) _ _ refl (pick (code == 0x03) _ _ refl (pass (code == 0x07) _ _ (isnt (code == 0x07) served) (pick (code == 0x12) _ _ refl
    (pick (code == 0x15 || code == 0x55) _ _ refl
    (pick (code == 0x1A || code == 0x5A) _ _ refl (pick (code == 0x25) _ _ refl (pick (code == 0x28 || code == 0x88) _ _ refl
    (pick (code == 0x2A || code == 0x8A) _ _ refl (pick (code == 0x2E) _ _ refl (pick (code == 0x2F) _ _ refl
    (pick (code == 0x35 || code == 0x91) _ _ refl (pick (code == 0x37) _ _ refl (pick (code == 0x4D) _ _ refl
    (pick (code == 0x9E) _ _ refl (pick (code == 0xA0) _ _ refl refl)))))))))))))))

pub served_cdb : (bs : List ℕ) (sent : DataOut) (capacity : ℕ) → is_served_cdb bs ≡ true → is_served (read_of bs sent capacity) ≡ true
served_cdb bs sent capacity served = read_served (operation_of (slice_index bs 0)) bs sent capacity (operations (slice_index bs 0) served)
