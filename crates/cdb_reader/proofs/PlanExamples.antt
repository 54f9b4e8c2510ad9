-- Deeds that fulfil a plan, and deeds that break one rule each.
use Rattle.std.proofs.Common.{◌≡◌, ℕ, Bool, true, false, List, [], ◌∷◌, Some, refl}
use Rattle.std.specs.Prelude.{replicate}
use Rattle.disk_base.specs.declared.address.Lba.{Lba}
use Rattle.disk_base.specs.declared.block.Value.TheVariants.{Data, Lost}
use Rattle.disk_base.specs.declared.command.DataOut.TheVariants.{Nothing, Fill}
use Rattle.cdb_reader.specs.declared.plan.Deed.{Deed}
use Rattle.cdb_reader.specs.declared.plan.Deed.TheVariants.{Page, Mode, Got, Put, Hardened, Passed, Ended}
use Rattle.cdb_reader.specs.declared.plan.Plan.TheVariants.{Answering, Changing}
use Rattle.cdb_reader.specs.Plan.{plan_of, fulfils}
use Rattle.cdb_reader.specs.Replies.{good, medium_error, unrecovered_read, no_spare, check_condition}
use Rattle.cdb_reader.specs.Request.{Request, TestUnitReady, Read, Write, WriteAndVerify, Verify, SynchronizeCache, ReassignBlocks}
use Rattle.sense_data.specs.Sense.{sense_of}

abbrev lba : ℕ → Lba
lba b = record { 0 = b }

abbrev sevens : List ℕ
sevens = replicate 512 7

-- a block is got, clean or dirty; a lost one
abbrev gets : ℕ → Deed
gets b = Got (lba b) (Data sevens) false

abbrev gets_dirty : ℕ → Deed
gets_dirty b = Got (lba b) (Data sevens) true

abbrev gets_bad : ℕ → Deed
gets_bad b = Got (lba b) Lost false

-- a block of sevens is put, with room in the cache and without
abbrev puts : ℕ → Deed
puts b = Put (lba b) sevens false

abbrev puts_at_full : ℕ → Deed
puts_at_full b = Put (lba b) sevens true

abbrev hardens : ℕ → Deed
hardens b = Hardened (lba b)

abbrev passes : ℕ → ℕ → Deed
passes from to = Passed (lba from) (lba to)

abbrev ends_good : Deed
ends_good = Ended good false

-- RECOVERED DATA WITH RETRIES
abbrev ends_recovered : Deed
ends_recovered = Ended (check_condition (sense_of 1 0x17 0x01)) false

-- WRITE ERROR at a block that is dirty, and at one that isn't
abbrev ends_unwritten : ℕ → Deed
ends_unwritten b = Ended (medium_error 0x0C 0x00 b) true

abbrev ends_unwritten_clean : ℕ → Deed
ends_unwritten_clean b = Ended (medium_error 0x0C 0x00 b) false

-- the deeds of a command without data, and of one with sevens, where writes may stay in the cache and recoveries aren't told
abbrev may : Request → List Deed → Bool
may request deeds = fulfils (plan_of request Nothing false false) deeds

abbrev may_write : Request → List Deed → Bool
may_write request deeds = fulfils (plan_of request (Fill 7) false false) deeds

-- TEST UNIT READY
ready : may TestUnitReady (ends_good ∷ []) ≡ true
ready = refl

-- data of a command that has none
ready_with_data : may TestUnitReady (Page [] ∷ ends_good ∷ []) ≡ false
ready_with_data = refl

-- two ends
ready_twice : may TestUnitReady (ends_good ∷ ends_good ∷ []) ≡ false
ready_twice = refl

-- data and their end
page : fulfils (Some (Answering (1 ∷ 2 ∷ []) good)) (Page (1 ∷ 2 ∷ []) ∷ ends_good ∷ []) ≡ true
page = refl

-- other data
page_changed : fulfils (Some (Answering (1 ∷ 2 ∷ []) good)) (Page (1 ∷ 3 ∷ []) ∷ ends_good ∷ []) ≡ false
page_changed = refl

-- the end without the data
page_left_out : fulfils (Some (Answering (1 ∷ 2 ∷ []) good)) (ends_good ∷ []) ≡ false
page_left_out = refl

-- mode values change
mode : fulfils (Some Changing) (Mode ∷ ends_good ∷ []) ≡ true
mode = refl

-- the end without the change
mode_left_out : fulfils (Some Changing) (ends_good ∷ []) ≡ false
mode_left_out = refl

-- two changes
mode_twice : fulfils (Some Changing) (Mode ∷ Mode ∷ ends_good ∷ []) ≡ false
mode_twice = refl

-- a read of a clean and a dirty block
read : may (Read 5 2 false) (gets 5 ∷ gets_dirty 6 ∷ ends_good ∷ []) ≡ true
read = refl

-- a read of no block
read_nothing : may (Read 5 0 false) (ends_good ∷ []) ≡ true
read_nothing = refl

-- a lost block ends a read
read_lost : may (Read 5 2 false) (gets_bad 5 ∷ Ended (unrecovered_read 5) false ∷ []) ≡ true
read_lost = refl

-- the wrong order
read_backwards : may (Read 5 2 false) (gets 6 ∷ gets 5 ∷ ends_good ∷ []) ≡ false
read_backwards = refl

-- a block left out
read_too_little : may (Read 5 2 false) (gets 5 ∷ ends_good ∷ []) ≡ false
read_too_little = refl

-- a block beyond the end
read_too_much : may (Read 5 2 false) (gets 5 ∷ gets 6 ∷ gets 7 ∷ ends_good ∷ []) ≡ false
read_too_much = refl

-- GOOD after a lost block
read_on_after_lost : may (Read 5 2 false) (gets_bad 5 ∷ gets 6 ∷ ends_good ∷ []) ≡ false
read_on_after_lost = refl

-- the error at another block
read_lost_elsewhere : may (Read 5 2 false) (gets_bad 5 ∷ Ended (unrecovered_read 6) false ∷ []) ≡ false
read_lost_elsewhere = refl

-- a recovery told where none may be
read_told : may (Read 5 1 false) (gets 5 ∷ ends_recovered ∷ []) ≡ false
read_told = refl

-- a recovery told where it may be
read_may_tell : fulfils (plan_of (Read 5 1 false) Nothing false true) (gets 5 ∷ ends_recovered ∷ []) ≡ true
read_may_tell = refl

-- a plain read that hardens
read_hardens : may (Read 5 1 false) (hardens 5 ∷ gets 5 ∷ ends_good ∷ []) ≡ false
read_hardens = refl

-- FUA: the dirty block is hardened first, the clean one isn't
forced_read : may (Read 5 2 true) (hardens 5 ∷ gets 5 ∷ gets 6 ∷ ends_good ∷ []) ≡ true
forced_read = refl

-- FUA: a dirty block that wasn't hardened
forced_read_dirty : may (Read 5 2 true) (gets_dirty 5 ∷ gets 6 ∷ ends_good ∷ []) ≡ false
forced_read_dirty = refl

-- FUA: hardened twice
forced_read_hardens_twice : may (Read 5 1 true) (hardens 5 ∷ hardens 5 ∷ gets 5 ∷ ends_good ∷ []) ≡ false
forced_read_hardens_twice = refl

-- FUA: a dirty block that can't be written
forced_read_unwritten : may (Read 5 2 true) (gets 5 ∷ ends_unwritten 6 ∷ []) ≡ true
forced_read_unwritten = refl

-- FUA: a clean block needs no write
forced_read_unwritten_clean : may (Read 5 2 true) (gets 5 ∷ ends_unwritten_clean 6 ∷ []) ≡ false
forced_read_unwritten_clean = refl

-- VERIFY hardens as FUA does
verify : may (Verify 5 1) (hardens 5 ∷ gets 5 ∷ ends_good ∷ []) ≡ true
verify = refl

-- VERIFY of what the cache has
verify_dirty : may (Verify 5 1) (gets_dirty 5 ∷ ends_good ∷ []) ≡ false
verify_dirty = refl

-- VERIFY that reads nothing
verify_left_out : may (Verify 5 1) (ends_good ∷ []) ≡ false
verify_left_out = refl

-- a write into the cache
write : may_write (Write 5 2 false) (puts 5 ∷ puts 6 ∷ ends_good ∷ []) ≡ true
write = refl

-- a harden without a reason
write_hardens : may_write (Write 5 1 false) (puts 5 ∷ hardens 5 ∷ ends_good ∷ []) ≡ false
write_hardens = refl

-- other data than were sent
write_other_data : fulfils (plan_of (Write 5 1 false) (Fill 8) false false) (puts 5 ∷ ends_good ∷ []) ≡ false
write_other_data = refl

-- a block left out
write_too_little : may_write (Write 5 2 false) (puts 5 ∷ ends_good ∷ []) ≡ false
write_too_little = refl

-- the wrong order
write_backwards : may_write (Write 5 2 false) (puts 6 ∷ puts 5 ∷ ends_good ∷ []) ≡ false
write_backwards = refl

-- a full cache: the block goes through
write_at_full : may_write (Write 5 1 false) (puts_at_full 5 ∷ hardens 5 ∷ ends_good ∷ []) ≡ true
write_at_full = refl

-- a full cache that keeps one more
write_kept_at_full : may_write (Write 5 1 false) (puts_at_full 5 ∷ ends_good ∷ []) ≡ false
write_kept_at_full = refl

-- writes go through
write_through : fulfils (plan_of (Write 5 2 false) (Fill 7) true false) (puts 5 ∷ hardens 5 ∷ puts 6 ∷ hardens 6 ∷ ends_good ∷ []) ≡ true
write_through = refl

-- writes go through, and this one doesn't
write_through_kept : fulfils (plan_of (Write 5 1 false) (Fill 7) true false) (puts 5 ∷ ends_good ∷ []) ≡ false
write_through_kept = refl

-- hardened when the next block is put already
write_through_late : fulfils (plan_of (Write 5 2 false) (Fill 7) true false) (puts 5 ∷ puts 6 ∷ hardens 5 ∷ hardens 6 ∷ ends_good ∷ []) ≡ false
write_through_late = refl

-- FUA
forced_write : may_write (Write 5 1 true) (puts 5 ∷ hardens 5 ∷ ends_good ∷ []) ≡ true
forced_write = refl

-- FUA that ends on its put alone
forced_write_kept : may_write (Write 5 1 true) (puts 5 ∷ ends_good ∷ []) ≡ false
forced_write_kept = refl

-- a block that can't be written isn't put
write_unwritten : may_write (Write 5 2 true) (puts 5 ∷ hardens 5 ∷ ends_unwritten_clean 6 ∷ []) ≡ true
write_unwritten = refl

-- the error at a block that is written
write_unwritten_elsewhere : may_write (Write 5 2 true) (puts 5 ∷ hardens 5 ∷ ends_unwritten_clean 5 ∷ []) ≡ false
write_unwritten_elsewhere = refl

-- WRITE AND VERIFY writes all blocks and then reads them
write_and_verify : may_write (WriteAndVerify 5 2) (puts 5 ∷ hardens 5 ∷ puts 6 ∷ hardens 6 ∷ gets 5 ∷ gets 6 ∷ ends_good ∷ []) ≡ true
write_and_verify = refl

-- WRITE AND VERIFY without the reading
write_and_verify_unread : may_write (WriteAndVerify 5 1) (puts 5 ∷ hardens 5 ∷ ends_good ∷ []) ≡ false
write_and_verify_unread = refl

-- WRITE AND VERIFY of what the cache has
write_and_verify_kept : may_write (WriteAndVerify 5 1) (puts 5 ∷ gets_dirty 5 ∷ ends_good ∷ []) ≡ false
write_and_verify_kept = refl

-- WRITE AND VERIFY of no block
write_and_verify_nothing : may_write (WriteAndVerify 5 0) (ends_good ∷ []) ≡ true
write_and_verify_nothing = refl

-- a sync over clean and dirty blocks
sync : may (SynchronizeCache 2 6) (passes 2 4 ∷ hardens 4 ∷ hardens 5 ∷ passes 6 8 ∷ ends_good ∷ []) ≡ true
sync = refl

-- a sync of no block
sync_nothing : may (SynchronizeCache 8 0) (ends_good ∷ []) ≡ true
sync_nothing = refl

-- a block left out
sync_gap : may (SynchronizeCache 2 4) (passes 2 3 ∷ hardens 4 ∷ hardens 5 ∷ ends_good ∷ []) ≡ false
sync_gap = refl

-- the last block left out
sync_short : may (SynchronizeCache 2 4) (passes 2 5 ∷ ends_good ∷ []) ≡ false
sync_short = refl

-- a block beyond the end
sync_beyond : may (SynchronizeCache 2 4) (passes 2 7 ∷ ends_good ∷ []) ≡ false
sync_beyond = refl

-- a dirty block that can't be written
sync_unwritten : may (SynchronizeCache 2 4) (passes 2 4 ∷ ends_unwritten 4 ∷ []) ≡ true
sync_unwritten = refl

-- the error past the block that comes next
sync_unwritten_elsewhere : may (SynchronizeCache 2 4) (passes 2 4 ∷ ends_unwritten 5 ∷ []) ≡ false
sync_unwritten_elsewhere = refl

-- three moves, the second of a value that was found
reassign : may (ReassignBlocks (lba 3 ∷ lba 9 ∷ lba 4 ∷ [])) (hardens 3 ∷ hardens 4 ∷ ends_good ∷ []) ≡ true
reassign = refl

-- a move of a value that was found
reassign_quiet : may (ReassignBlocks (lba 3 ∷ [])) (ends_good ∷ []) ≡ true
reassign_quiet = refl

-- no descriptors
reassign_nothing : may (ReassignBlocks []) (ends_good ∷ []) ≡ true
reassign_nothing = refl

-- a block named twice
reassign_twice : may (ReassignBlocks (lba 3 ∷ lba 3 ∷ [])) (hardens 3 ∷ hardens 3 ∷ ends_good ∷ []) ≡ true
reassign_twice = refl

-- no spare for the second
reassign_no_spare : may (ReassignBlocks (lba 3 ∷ lba 9 ∷ [])) (hardens 3 ∷ Ended (no_spare 9) false ∷ []) ≡ true
reassign_no_spare = refl

-- the wrong order
reassign_out_of_order : may (ReassignBlocks (lba 3 ∷ lba 9 ∷ [])) (hardens 9 ∷ hardens 3 ∷ ends_good ∷ []) ≡ false
reassign_out_of_order = refl

-- more hardened than the descriptors
reassign_once_too_often : may (ReassignBlocks (lba 3 ∷ lba 9 ∷ [])) (hardens 3 ∷ hardens 3 ∷ ends_good ∷ []) ≡ false
reassign_once_too_often = refl

-- no spare for a block that is moved
reassign_no_spare_before : may (ReassignBlocks (lba 3 ∷ lba 9 ∷ [])) (hardens 9 ∷ Ended (no_spare 3) false ∷ []) ≡ false
reassign_no_spare_before = refl

-- no spare for a block that can't be written
write_no_spare : may_write (Write 5 1 true) (Ended (medium_error 0x0C 0x02 5) false ∷ []) ≡ true
write_no_spare = refl

-- a write that ends as a read does
write_unread : may_write (Write 5 1 true) (Ended (unrecovered_read 5) false ∷ []) ≡ false
write_unread = refl
