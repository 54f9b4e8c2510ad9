-- What a command block can ask for.
use Rattle.std.proofs.Common.{◌≡◌, sym, subst, ℕ, ◌+◌, ◌<◌, ◌≤◌, Bool, true, false, cond, List, arith}
use Rattle.std.specs.Prelude.{◌&&◌, nat_le, IsTrue, IfOk, Option, Some, None, Result, Ok, Err, slice_index}
use Rattle.std.specs.Option.{option_map_or}
use Rattle.std.proofs.lemmas.Bool.{and_parts}
use Rattle.std.proofs.lemmas.Bool.Decides.{nat_tests}
use Rattle.disk_base.specs.declared.address.Lba.{Lba}
use Rattle.disk_base.specs.declared.command.DataOut.{DataOut}
use Rattle.sense_data.specs.declared.sense.Sense.{Sense}
use Rattle.sense_data.specs.Sense.{sense_of}
use Rattle.cdb_reader.specs.declared.command.Command.{Command}
use Rattle.cdb_reader.specs.declared.command.Command.TheVariants as command
use Rattle.cdb_reader.specs.declared.operation.Operation.{Operation}
use Rattle.cdb_reader.specs.declared.operation.Operation.TheVariants as operation
use Rattle.cdb_reader.specs.Fields.{bit, naca}
use Rattle.cdb_reader.specs.Operation.{operation_of, refuses_field, reaches_past, blocks_per_command}
use Rattle.cdb_reader.specs.Reassign.{blocks_of, list_sent}
use Rattle.cdb_reader.specs.Read.{asked, checked, in_range, read_of, reassigning, refuses_blocks, refuses_list_length}
use Rattle.cdb_reader.specs.Request.{Request, ModeSense, outcome_of, request_of}
use Rattle.history_replay.specs.Known.{HasPageControl, NamesFewBlocks}

-- a PAGE CONTROL field has two bits
abbrev HasControl : Request → Type 0
HasControl (ModeSense ten dbd control page subpage allocation) = control ≤ 3
HasControl other = Unit {0}

control-of : (c : Command) → HasControl (request_of c) → HasPageControl c
control-of (command.ModeSense ten dbd control page subpage allocation) h = h
control-of other h = tt

either : (b : Bool) (x y : Result Request Sense) → IfOk x HasControl → IfOk y HasControl → IfOk (cond b x y) HasControl
either true x y h k = h
either false x y h k = k

control-reassigning : (r : Result (List Lba) Sense) → IfOk (reassigning r) HasControl
control-reassigning (Ok blocks) = tt
control-reassigning (Err sense) = tt

control-asked : (o : Operation) (bs : List ℕ) (sent : DataOut) (capacity : ℕ) → slice_index bs 2 < 256 → IfOk (asked o bs sent capacity) HasControl
control-asked operation.ReassignBlocks bs sent capacity h = control-reassigning (blocks_of (bit bs 1 1) (bit bs 1 0) (list_sent sent) capacity)
control-asked operation.ModeSense bs sent capacity h = omega arith
control-asked other bs sent capacity h = tt

control-checked : (o : Operation) (bs : List ℕ) (sent : DataOut) (capacity : ℕ) → slice_index bs 2 < 256 → IfOk (checked o bs sent capacity) HasControl
control-checked o bs sent capacity h =
    either (naca bs) _ _ tt (either (refuses_field o bs) _ _ tt (either (reaches_past o bs capacity) _ _ tt (either (refuses_blocks o bs sent) _ _ tt
    (either (refuses_list_length o bs sent) _ _ tt (control-asked o bs sent capacity h)))))

control-read : (o : Option Operation) (bs : List ℕ) (sent : DataOut) (capacity : ℕ) → slice_index bs 2 < 256
    → IfOk (option_map_or (λ operation. checked operation bs sent capacity) o (Err (sense_of 5 0x20 0x00))) HasControl
control-read (Some o) bs sent capacity h = control-checked o bs sent capacity h
control-read None bs sent capacity h = tt

control-outcome : (r : Result Command Sense) → IfOk (outcome_of r) HasControl → IfOk r HasPageControl
control-outcome (Ok c) h = control-of c h
control-outcome (Err sense) h = tt

-- the PAGE CONTROL field of what is read
pub control_read : (r : Result Command Sense) (bs : List ℕ) (sent : DataOut) (capacity : ℕ) → slice_index bs 2 < 256
    → outcome_of r ≡ read_of bs sent capacity → IfOk r HasPageControl
control_read r bs sent capacity h e =
    control-outcome r (subst (λ (o : Result Request Sense). IfOk o HasControl) (sym e) (control-read (operation_of (slice_index bs 0)) bs sent capacity h))

few-end : (end count capacity : ℕ) → IsTrue (nat_le end capacity && nat_le count blocks_per_command) → capacity ≤ 4096 → end ≤ 4096
few-end end count capacity h small =
    let low : IsTrue (nat_le end capacity) = (and_parts (nat_le end capacity) (nat_le count blocks_per_command) h).0 in
    grind (arith, nat_tests)

few-of : (c : Command) (capacity : ℕ) → IsTrue (in_range (request_of c) capacity) → capacity ≤ 4096 → NamesFewBlocks c
few-of (command.Read from length fua) capacity h small = few-end (from + length) length capacity h small
few-of (command.Verify from length) capacity h small = few-end (from + length) length capacity h small
few-of (command.WriteAndVerify from length) capacity h small = few-end (from + length) length capacity h small
few-of other capacity h small = tt

-- on a small unit it names few blocks
pub few_read : (r : Result Command Sense) (capacity : ℕ) → IfOk r (λ c. IsTrue (in_range (request_of c) capacity)) → capacity ≤ 4096
    → IfOk r NamesFewBlocks
few_read (Ok c) capacity h small = few-of c capacity h small
few_read (Err sense) capacity h small = tt
