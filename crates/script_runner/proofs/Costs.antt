-- How many entries a command has at most, and how many turns a line, by what they weigh.
use Rattle.std.proofs.Common.{◌≡◌, ap, refl, ℕ, ◌+◌, ◌-◌, ◌*◌, ◌≤◌, zero, suc, Bool, true, false, not, List, [], ◌∷◌, arith, nat_lt, Option, Some, None, Ok, Err, cond, eqb-true, length}
use Rattle.std.specs.Prelude.{◌==◌, ◌||◌, ◌/◌, ◌%◌, slice_index}
use Rattle.std.specs.Option.{option_map_or}
use Rattle.std.proofs.lemmas.Bool.Decides.{nat_tests}
use Rattle.std.proofs.lemmas.List.{length_push}
use Rattle.std.proofs.lemmas.List.Sums.{sum_by-cons}
use Rattle.disk_base.specs.declared.command.DataOut.{DataOut}
use Rattle.disk_base.specs.declared.command.DataOut.TheVariants.{Nothing, Fill, Given}
use Rattle.sense_data.specs.Sense.{sense_of}
use Rattle.cdb_reader.specs.declared.operation.Operation.{Operation}
use Rattle.cdb_reader.specs.declared.operation.Operation.TheVariants as operation
use Rattle.cdb_reader.specs.Operation.{operation_of, refuses_field, reaches_past, refuses_transfer, block_count, address, protect, byte_check}
use Rattle.cdb_reader.specs.Fields.{naca, bit, two_bytes, four_bytes}
use Rattle.cdb_reader.specs.Reassign.{list_sent, address_at, length_stated, descriptor_length, descriptor_count, first_blocks, some_past, blocks_of}
use Rattle.cdb_reader.specs.Read.{read_of, checked, asked, reassigning, refuses_blocks, refuses_list_length}
use Rattle.cdb_reader.specs.Request.{sync_count}
use Rattle.block_machine.proofs.Booleans.{none_of}
use Rattle.script_text.specs.declared.script.Line.{Line}
use Rattle.script_text.specs.declared.script.Line.TheVariants.{Command, Function, Scan, Destage, Go, World}
use Rattle.script_text.specs.Weight.{weight_of, weight_of_blocks, short_length, long_length, weight_of_data, weight_of_command}
use Rattle.script_runner.specs.Measure.{steps_asked, turns_of_line, turns_of_lines, turns_by_weight}

-- what a command weighs, by its operation
abbrev Weighs : Operation → List ℕ → DataOut → ℕ → Type 0
Weighs operation.Read bs sent weight = weight ≡ weight_of_blocks (block_count bs)
Weighs operation.Write bs sent weight = weight ≡ weight_of_blocks (block_count bs)
Weighs operation.WriteAndVerify bs sent weight = weight ≡ weight_of_blocks (block_count bs)
Weighs operation.Verify bs sent weight = weight ≡ weight_of_blocks (block_count bs)
Weighs operation.SynchronizeCache bs sent weight = weight ≡ 64
Weighs operation.ReassignBlocks bs sent weight = weight ≡ weight_of_data sent
Weighs other bs sent weight = Unit {0}

-- blocks that one command may name weigh as many
named : (n weight : ℕ) → n ≤ 256 → weight ≡ weight_of_blocks n → n ≤ weight
named n weight few is = grind (arith, nat_tests)

-- the list of addresses is as long as data have room for
length_first : (long : Bool) (list : List ℕ) (k : ℕ) → length (first_blocks long list k) ≡ k
length_first long list zero = refl
length_first long list (suc k) =
    let rest = length_first long list k in
    let one = length_push (first_blocks long list k) (record { 0 = address_at long list (4 + descriptor_length long * k) }) in
    omega arith

count_few : (long : Bool) (list : List ℕ) → descriptor_count long list ≤ length list / 4
count_few true list = omega arith
count_few false list = omega arith

reassign_few : (long long_list : Bool) (list : List ℕ) (blocks : ℕ) → steps_asked (reassigning (blocks_of long long_list list blocks)) ≤ length list / 4 + 2
reassign_few long long_list list blocks =
    go (nat_lt (length list) 4) (not (length_stated long_list list == length list - 4)) (not ((length list - 4) % descriptor_length long == 0))
    (nat_lt 256 (descriptor_count long list)) (some_past (first_blocks long list (descriptor_count long list)) blocks)
  where
    go : (a b c d e : Bool)
        → steps_asked (reassigning (cond a (Err (sense_of 5 0x1A 0x00)) (cond b (Err (sense_of 5 0x1A 0x00)) (cond c (Err (sense_of 5 0x1A 0x00)) (cond d (Err (sense_of 5 0x26 0x00)) (cond e (Err (sense_of 5 0x21 0x00)) (Ok (first_blocks long list (descriptor_count long list)))))))))
        ≤ length list / 4 + 2
    go true b c d e = omega arith
    go false true c d e = omega arith
    go false false true d e = omega arith
    go false false false true e = omega arith
    go false false false false true = omega arith
    go false false false false false = let is = length_first long list (descriptor_count long list) in let few = count_few long list in omega arith

data_few : (sent : DataOut) → length (list_sent sent) / 4 ≡ weight_of_data sent
data_few Nothing = refl
data_few (Fill byte) = refl
data_few (Given bytes) = refl

module _ (bs : List ℕ) (sent : DataOut) (blocks : ℕ) where
  -- a command block comes to so many entries, where its fields do
  checked_few : (op : Operation) (n : ℕ) → 2 ≤ n → (refuses_field op bs ≡ false → reaches_past op bs blocks ≡ false → steps_asked (asked op bs sent blocks) ≤ n)
      → steps_asked (checked op bs sent blocks) ≤ n
  checked_few op n two few = go (naca bs) (refuses_field op bs) (reaches_past op bs blocks) (refuses_blocks op bs sent) (refuses_list_length op bs sent) refl refl
    where
      go : (a b c d e : Bool) → refuses_field op bs ≡ b → reaches_past op bs blocks ≡ c
          → steps_asked (cond a (Err (sense_of 5 0x24 0x00)) (cond b (Err (sense_of 5 0x24 0x00)) (cond c (Err (sense_of 5 0x21 0x00)) (cond d (Err (sense_of 5 0x24 0x00)) (cond e (Err (sense_of 5 0x1A 0x00)) (asked op bs sent blocks)))))) ≤ n
      go true b c d e is_b is_c = two
      go false true c d e is_b is_c = two
      go false false true d e is_b is_c = two
      go false false false true e is_b is_c = two
      go false false false false true is_b is_c = two
      go false false false false false is_b is_c = few is_b is_c

  few_blocks : refuses_transfer bs ≡ false → block_count bs ≤ 256
  few_blocks none = let h = (none_of (not (protect bs == 0)) (nat_lt 256 (block_count bs)) none).1 in grind (arith, nat_tests)

  within_drive : nat_lt blocks (address bs + block_count bs) ≡ false → sync_count bs blocks ≤ blocks
  within_drive past = go (block_count bs == 0)
    where
      go : (b : Bool) → cond b (blocks - address bs) (block_count bs) ≤ blocks
      go true = omega arith
      go false = grind (arith, nat_tests, past)

  -- at most 5 entries, and 64 for each unit of its weight
  transfer_few : (weight : ℕ) → refuses_transfer bs ≡ false → weight ≡ weight_of_blocks (block_count bs) → block_count bs ≤ weight
  transfer_few weight fields is = named (block_count bs) weight (few_blocks fields) is

  -- each known command
  known_few : (op : Operation) (weight : ℕ) → blocks ≤ 4096 → Weighs op bs sent weight → steps_asked (checked op bs sent blocks) ≤ 5 + 64 * weight
  known_few operation.Read weight small is =
      checked_few operation.Read (5 + 64 * weight) (omega arith) (λ fields past. let h = transfer_few weight fields is in omega arith)
  known_few operation.Write weight small is =
      checked_few operation.Write (5 + 64 * weight) (omega arith) (λ fields past. let h = transfer_few weight fields is in omega arith)
  known_few operation.WriteAndVerify weight small is =
      checked_few operation.WriteAndVerify (5 + 64 * weight) (omega arith)
      (λ fields past. let h = transfer_few weight (none_of (not (byte_check bs == 0)) (refuses_transfer bs) fields).1 is in omega arith)
  known_few operation.Verify weight small is =
      checked_few operation.Verify (5 + 64 * weight) (omega arith)
      (λ fields past. let h = transfer_few weight (none_of (not (byte_check bs == 0)) (refuses_transfer bs) fields).1 is in omega arith)
  known_few operation.SynchronizeCache weight small is =
      checked_few operation.SynchronizeCache (5 + 64 * weight) (omega arith) (λ fields past. let h = within_drive past in omega arith)
  known_few operation.ReassignBlocks weight small is =
      checked_few operation.ReassignBlocks (5 + 64 * weight) (omega arith)
      (λ fields past. let few = reassign_few (bit bs 1 1) (bit bs 1 0) (list_sent sent) blocks in let as_data = data_few sent in omega arith)
  known_few operation.TestUnitReady weight small is = checked_few operation.TestUnitReady (5 + 64 * weight) (omega arith) (λ fields past. omega arith)
  known_few operation.RequestSense weight small is = checked_few operation.RequestSense (5 + 64 * weight) (omega arith) (λ fields past. omega arith)
  known_few operation.Inquiry weight small is = checked_few operation.Inquiry (5 + 64 * weight) (omega arith) (λ fields past. omega arith)
  known_few operation.ModeSelect weight small is = checked_few operation.ModeSelect (5 + 64 * weight) (omega arith) (λ fields past. omega arith)
  known_few operation.ModeSense weight small is = checked_few operation.ModeSense (5 + 64 * weight) (omega arith) (λ fields past. omega arith)
  known_few operation.ReadCapacity10 weight small is = checked_few operation.ReadCapacity10 (5 + 64 * weight) (omega arith) (λ fields past. omega arith)
  known_few operation.ReadDefectData weight small is = checked_few operation.ReadDefectData (5 + 64 * weight) (omega arith) (λ fields past. omega arith)
  known_few operation.LogSense weight small is = checked_few operation.LogSense (5 + 64 * weight) (omega arith) (λ fields past. omega arith)
  known_few operation.ReadCapacity16 weight small is = checked_few operation.ReadCapacity16 (5 + 64 * weight) (omega arith) (λ fields past. omega arith)
  known_few operation.ReportLuns weight small is = checked_few operation.ReportLuns (5 + 64 * weight) (omega arith) (λ fields past. omega arith)

-- the operation codes of commands that weigh something
module _ (code : ℕ) where
  reads : operation_of code ≡ Some operation.Read → (code == 0x28 || code == 0x88) ≡ true
  unfolding operation_of
  reads is = grind arith

  writes : operation_of code ≡ Some operation.Write → (code == 0x2A || code == 0x8A) ≡ true
  unfolding operation_of
  writes is = grind arith

  writes_and_verifies : operation_of code ≡ Some operation.WriteAndVerify → (code == 0x2E) ≡ true
  unfolding operation_of
  writes_and_verifies is = grind arith

  verifies : operation_of code ≡ Some operation.Verify → (code == 0x2F) ≡ true
  unfolding operation_of
  verifies is = grind arith

  syncs : operation_of code ≡ Some operation.SynchronizeCache → (code == 0x35 || code == 0x91) ≡ true
  unfolding operation_of
  syncs is = grind arith

  reassigns : operation_of code ≡ Some operation.ReassignBlocks → (code == 0x07) ≡ true
  unfolding operation_of
  reassigns is = grind arith

case_or : (code x y : ℕ) {P : Type 0} → (code == x || code == y) ≡ true → (code ≡ x → P) → (code ≡ y → P) → P
case_or code x y {P = P} e f g = go (code == x) (code == y) refl refl e
  where
    go : (a b : Bool) → (code == x) ≡ a → (code == y) ≡ b → (a || b) ≡ true → P
    go true b is_x is_y h = f (eqb-true code x is_x)
    go false true is_x is_y h = g (eqb-true code y is_y)
    go false false is_x is_y h = absurd (cc)

-- transfer lengths as weights and as command blocks have them
module _ (bs : List ℕ) where
  short : short_length bs ≡ two_bytes bs 7
  short = omega arith

  long : long_length bs ≡ four_bytes bs 10
  long = omega arith

-- what a known command weighs
weighs : (blocks : ℕ) (bs : List ℕ) (sent : DataOut) (op : Operation) → operation_of (slice_index bs 0) ≡ Some op → Weighs op bs sent (weight_of_command blocks bs sent)
weighs blocks bs sent operation.Read is =
    case_or (slice_index bs 0) 0x28 0x88 (reads (slice_index bs 0) is) (λ at. rw at (ap weight_of_blocks (short bs))) (λ at. rw at (ap weight_of_blocks (long bs)))
weighs blocks bs sent operation.Write is =
    case_or (slice_index bs 0) 0x2A 0x8A (writes (slice_index bs 0) is) (λ at. rw at (ap weight_of_blocks (short bs))) (λ at. rw at (ap weight_of_blocks (long bs)))
weighs blocks bs sent operation.WriteAndVerify is = let at = eqb-true (slice_index bs 0) 0x2E (writes_and_verifies (slice_index bs 0) is) in rw at (ap weight_of_blocks (short bs))
weighs blocks bs sent operation.Verify is = let at = eqb-true (slice_index bs 0) 0x2F (verifies (slice_index bs 0) is) in rw at (ap weight_of_blocks (short bs))
weighs blocks bs sent operation.SynchronizeCache is = case_or (slice_index bs 0) 0x35 0x91 (syncs (slice_index bs 0) is) (λ at. rw at refl) (λ at. rw at refl)
weighs blocks bs sent operation.ReassignBlocks is = let at = eqb-true (slice_index bs 0) 0x07 (reassigns (slice_index bs 0) is) in rw at refl
weighs blocks bs sent operation.TestUnitReady is = tt
weighs blocks bs sent operation.RequestSense is = tt
weighs blocks bs sent operation.Inquiry is = tt
weighs blocks bs sent operation.ModeSelect is = tt
weighs blocks bs sent operation.ModeSense is = tt
weighs blocks bs sent operation.ReadCapacity10 is = tt
weighs blocks bs sent operation.ReadDefectData is = tt
weighs blocks bs sent operation.LogSense is = tt
weighs blocks bs sent operation.ReadCapacity16 is = tt
weighs blocks bs sent operation.ReportLuns is = tt

-- the entries of a command by its weight; one that isn't known is refused at once
pub steps_few : (blocks : ℕ) (bs : List ℕ) (sent : DataOut) → blocks ≤ 4096 → steps_asked (read_of bs sent blocks) ≤ 5 + 64 * weight_of_command blocks bs sent
steps_few blocks bs sent small = go (operation_of (slice_index bs 0)) refl
  where
    go : (o : Option Operation) → operation_of (slice_index bs 0) ≡ o
        → steps_asked (option_map_or (λ op. checked op bs sent blocks) o (Err (sense_of 5 0x20 0x00))) ≤ 5 + 64 * weight_of_command blocks bs sent
    go None is = omega arith
    go (Some op) is = known_few bs sent blocks op (weight_of_command blocks bs sent) small (weighs blocks bs sent op is)

-- the turns of a line by its weight
line_few : (blocks : ℕ) (line : Line) → blocks ≤ 4096 → turns_of_line blocks line ≤ 2163 + 19776 * weight_of blocks line
line_few blocks (Command i t a bs sent) small = let few = steps_few blocks bs sent small in omega arith
line_few blocks (Function i what) small = omega arith
line_few blocks (Scan n) small = omega arith
line_few blocks (Destage n) small = omega arith
line_few blocks Go small = omega arith
line_few blocks (World event) small = omega arith

-- and those of some lines
pub lines_few : (blocks : ℕ) (lines : List Line) → blocks ≤ 4096 → turns_of_lines blocks lines ≤ turns_by_weight blocks lines
lines_few blocks [] small = omega arith
lines_few blocks (line ∷ lines) small =
    let rest = lines_few blocks lines small in
    let here = line_few blocks line small in
    let turns = sum_by-cons (turns_of_line blocks) line lines in
    let weight = sum_by-cons (weight_of blocks) line lines in
    omega arith
