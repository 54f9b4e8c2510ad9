-- Histories of a disk of 912 blocks that were worked out by hand: each is legal.
use Rattle.std.proofs.Common.{◌≡◌, ℕ, zero, suc, ◌+◌, true, false, List, [], ◌∷◌, ◌++◌, refl}
use Rattle.std.specs.Prelude.{replicate}
use Rattle.disk_base.specs.declared.command.Attribute.TheVariants.{Ordered}
use Rattle.disk_base.specs.declared.command.DataOut.TheVariants.{Nothing, Fill}
use Rattle.disk_base.specs.declared.command.Function.TheVariants.{Abort}
use Rattle.cdb_reader.specs.Operation.{operation_of}
use Rattle.cdb_reader.specs.Replies.{no_spare}
use Rattle.inquiry_data.specs.Identity.{standard_data}
use Rattle.mode_pages.specs.Settings.{default_settings}
use Rattle.block_machine.specs.declared.entry.Seen.TheVariants.{Skipped, Heavy}
use Rattle.block_machine.specs.declared.entry.Recovered.TheVariants.{Ready, Corrupt}
use Rattle.block_machine.specs.declared.entry.Entry.TheVariants.{Page, Ended, Logged, Cut}
use Rattle.block_machine.specs.declared.turn.Label.TheVariants.{World}
use Rattle.block_machine.specs.declared.turn.Turn.{Turn}
use Rattle.platter_model.specs.declared.world.World.TheVariants as world
use Rattle.block_machine.specs.History.{legal_from}
use Rattle.block_machine.proofs.Building.{turn, lba, read, write, sync, forced_write, reassign, blocks_named, test_unit_ready, comes_as, comes, comes_full, sends, asks, starts, at_once, works, moves, get, get_bad, put, hard, hard_by_drive, pass, lose, good, fails, fails_at, cut, power, scans, scans_light, destages, told, ready, reads, reads_bad, writes, forces, tries, selects, recovery_page, told_drive, is_legal, is_legal_on}

-- nothing came
nothing : is_legal [] ≡ true
nothing = refl

-- a read of one block
one_read : is_legal (reads 1 0 0) ≡ true
unfolding operation_of
one_read = refl

-- a write into the cache, and a sync of the whole disk
write_and_sync : is_legal (sends 1 1 (write 5 2) (Fill 0x11) ∷ comes 2 1 (sync 0 0) ∷ starts 1 ∷ works 1 (put 1 5 0x11 ∷ [])
    ∷ works 1 (put 1 6 0x11 ∷ good 1 ∷ []) ∷ starts 2 ∷ works 2 (pass 2 0 5 ∷ hard 2 5 ∷ []) ∷ works 2 (hard 2 6 ∷ [])
    ∷ works 2 (pass 2 7 912 ∷ good 2 ∷ []) ∷ []) ≡ true
unfolding operation_of
write_and_sync = refl

-- the last block, and no block behind it
at_the_end : is_legal (reads 1 911 0 ++ comes 2 1 (read 912 0) ∷ at_once 2 (good 2 ∷ []) ∷ comes 3 1 (read 912 1)
    ∷ at_once 3 (fails 3 5 0x21 0x00 ∷ []) ∷ comes 4 1 (read 913 0) ∷ at_once 4 (fails 4 5 0x21 0x00 ∷ []) ∷ comes 5 1 (read 0 257)
    ∷ at_once 5 (fails 5 5 0x24 0x00 ∷ []) ∷ []) ≡ true
unfolding operation_of
at_the_end = refl

-- as a system starts: INQUIRY is served while an attention waits, TEST UNIT READY is told it, MODE SENSE (6) shows the pages
system_start : is_legal_on (comes 1 1 (0x12 ∷ 0 ∷ 0 ∷ 0 ∷ 0x24 ∷ 0 ∷ []) ∷ at_once 1 (Page 1 standard_data ∷ good 1 ∷ []) ∷ told 2 1 0x29 0x01
    ++ ready 3 1 ++ comes 4 1 (0x1A ∷ 0 ∷ 0x3F ∷ 0 ∷ 0xFF ∷ 0 ∷ []) ∷ at_once 4 (Page 4 (0x2B ∷ 0x00 ∷ 0x10 ∷ 0x08
    ∷ 0x00 ∷ 0x00 ∷ 0x03 ∷ 0x90 ∷ 0x00 ∷ 0x00 ∷ 0x02 ∷ 0x00 ∷ (recovery_page 0xC0 ++ 0x08 ∷ 0x12 ∷ 0x04 ∷ replicate 17 0)) ∷ good 4 ∷ [])
    ∷ comes 5 1 (read 0 2) ∷ starts 5 ∷ works 5 (get 5 0 0 ∷ []) ∷ works 5 (get 5 1 0 ∷ good 5 ∷ []) ∷ []) ≡ true
unfolding operation_of
system_start = refl

-- MODE SENSE (10), MODE SELECT (10) that turns the write cache off, and who is told
write_cache_off : is_legal_on (told 1 1 0x29 0x01 ++ told 2 2 0x29 0x01 ++ comes 3 1 (0x5A ∷ 0x08 ∷ 0x08 ∷ 0 ∷ 0 ∷ 0 ∷ 0 ∷ 0 ∷ 0xFF ∷ 0 ∷ [])
    ∷ at_once 3 (Page 3 (0x00 ∷ 0x1A ∷ 0x00 ∷ 0x10 ∷ 0 ∷ 0 ∷ 0 ∷ 0 ∷ 0x08 ∷ 0x12 ∷ 0x04 ∷ replicate 17 0) ∷ good 3 ∷ [])
    ∷ selects 4 (0x08 ∷ 0x12 ∷ replicate 18 0) (record default_settings { wce = false })
    ++ told 5 2 0x2A 0x01 ++ ready 6 1) ≡ true
unfolding operation_of
write_cache_off = refl

-- commands numbered from one on arrive, and are served
ready_arrivals : ℕ → ℕ → List Turn
ready_arrivals c zero = []
ready_arrivals c (suc n) = comes c 1 test_unit_ready ∷ ready_arrivals (c + 1) n

ready_replies : ℕ → ℕ → List Turn
ready_replies c zero = []
ready_replies c (suc n) = at_once c (good c ∷ []) ∷ ready_replies (c + 1) n

-- 64 commands, the first ORDERED; for a 65th there is no room
task_set_full : is_legal_on (told 1 1 0x29 0x01 ++ comes_as Ordered 2 1 test_unit_ready Nothing ∷ ready_arrivals 3 63
    ++ comes_full 66 1 test_unit_ready ∷ ready_replies 2 64) ≡ true
unfolding operation_of ready_arrivals ready_replies
task_set_full = refl

-- two stages find nothing, the third finds the block; the next read takes it from the cache
found_late : is_legal_on (told 1 1 0x29 0x01 ++ comes 2 1 (read 0 1) ∷ starts 2 ∷ tries 2 2 ++ works 2 (get 2 0 0 ∷ good 2 ∷ []) ∷ reads 3 0 0) ≡ true
unfolding operation_of
found_late = refl

-- the same with PER 1: RECOVERED DATA WITH RETRIES at block 0
found_late_and_told : is_legal_on (told 1 1 0x29 0x01 ++ selects 2 (recovery_page 0xC4) (record default_settings { per = true })
    ++ comes 3 1 (read 0 1) ∷ starts 3 ∷ tries 3 2 ++ works 3 (get 3 0 0 ∷ fails_at 3 1 0x17 0x01 0 ∷ []) ∷ []) ≡ true
unfolding operation_of
found_late_and_told = refl

-- a block that no stage finds is given up by REASSIGN BLOCKS, reads bad from then on, and is written again
given_up : is_legal_on (told 1 1 0x29 0x01 ++ comes 2 1 (read 0 1) ∷ starts 2 ∷ tries 2 9 ++ works 2 (get_bad 2 0 ∷ fails_at 2 3 0x11 0x00 0 ∷ [])
    ∷ sends 3 1 reassign (blocks_named (0 ∷ [])) ∷ starts 3 ∷ tries 3 10 ++ moves 1 [] ∷ moves 1 [] ∷ moves 1 (lose 0 ∷ hard 3 0 ∷ [])
    ∷ works 3 (good 3 ∷ []) ∷ reads_bad 4 0 ++ forces 5 0 0x11 ++ reads 6 0 0x11) ≡ true
unfolding operation_of
given_up = refl

-- a power cut loses what was in the cache; docs/MODEL.md goes through this one line by line
cut_loses : is_legal_on (told 1 1 0x29 0x01 ++ writes 2 5 0x11 ++ cut ∷ power (Ready 6) ∷ told 3 1 0x29 0x01 ++ reads 4 5 0) ≡ true
unfolding operation_of
cut_loses = refl

-- and not what was on the medium
cut_keeps : is_legal_on (told 1 1 0x29 0x01 ++ forces 2 0 0x11 ++ cut ∷ power (Ready 6) ∷ told 3 1 0x29 0x01 ++ reads 4 0 0x11) ≡ true
unfolding operation_of
cut_keeps = refl

-- a power cut in the write of the block's sector: the block may be lost
cut_tears : is_legal (sends 1 1 (forced_write 0 1) (Fill 0x11) ∷ starts 1 ∷ works 1 (put 1 0 0x11 ∷ Cut ∷ []) ∷ power (Ready 6)
    ∷ told 2 1 0x29 0x01 ++ comes 3 1 (read 0 1) ∷ starts 3 ∷ tries 3 9 ++ works 3 (get_bad 3 0 ∷ fails_at 3 3 0x11 0x00 0 ∷ []) ∷ []) ≡ true
unfolding operation_of
cut_tears = refl

-- a map that can't be read: no medium, but INQUIRY
corrupt_map : is_legal (cut ∷ power (Corrupt 1) ∷ told 1 1 0x29 0x01 ++ comes 2 1 test_unit_ready
    ∷ at_once 2 (fails 2 3 0x31 0x00 ∷ []) ∷ comes 3 1 (0x12 ∷ 0 ∷ 0 ∷ 0 ∷ 0x24 ∷ 0 ∷ []) ∷ at_once 3 (Page 3 standard_data ∷ good 3 ∷ []) ∷ []) ≡ true
unfolding operation_of
corrupt_map = refl

-- a second cut in the turn that reads the map
cut_while_recovering : is_legal (cut ∷ turn (World world.Power) (Cut ∷ []) ∷ power (Ready 8) ∷ told 1 1 0x29 0x01) ≡ true
unfolding operation_of
cut_while_recovering = refl

-- without spares REASSIGN BLOCKS names the block, and a recovered read recommends reassignment
no_spares : legal_from 48 told_drive (sends 1 1 reassign (blocks_named (3 ∷ [])) ∷ starts 1 ∷ works 1 (Ended 1 (no_spare 3) ∷ [])
    ∷ selects 2 (recovery_page 0xC4) (record default_settings { per = true })
    ++ comes 3 1 (read 3 1) ∷ starts 3 ∷ tries 3 8 ++ works 3 (get 3 3 0 ∷ fails_at 3 1 0x18 0x05 3 ∷ []) ∷ []) ≡ true
unfolding operation_of
no_spares = refl

-- a write fault: the new value is moved to a spare, which takes several turns
moved_write : is_legal (sends 1 1 (forced_write 0 1) (Fill 0x11) ∷ starts 1 ∷ works 1 [] ∷ moves 1 [] ∷ moves 1 [] ∷ moves 1 []
    ∷ moves 1 (put 1 0 0x11 ∷ hard 1 0 ∷ []) ∷ works 1 (good 1 ∷ []) ∷ reads 2 0 0x11) ≡ true
unfolding operation_of
moved_write = refl

-- with AWRE 0 it is told, and the block reads as before
refused_write : is_legal (selects 1 (recovery_page 0x40) (record default_settings { awre = false })
    ++ sends 2 1 (forced_write 0 1) (Fill 0x11) ∷ starts 2 ∷ works 2 (fails_at 2 3 0x0C 0x00 0 ∷ []) ∷ reads 3 0 0) ≡ true
unfolding operation_of
refused_write = refl

-- the scan of eight blocks passes a dirty one over; in the next pass it finds that with effort and moves it; LOG SENSE tells
scan_moves : legal_from 8 told_drive (writes 1 5 0x11 ++ scans_light 0 5 ++ scans 5 Skipped [] ∷ scans_light 6 2
    ++ comes 2 1 (sync 0 0) ∷ starts 2 ∷ works 2 (pass 2 0 5 ∷ hard 2 5 ∷ []) ∷ works 2 (pass 2 6 8 ∷ good 2 ∷ [])
    ∷ scans_light 0 5 ++ scans 5 Heavy [] ∷ moves 1 [] ∷ moves 1 [] ∷ moves 1 (Logged (record { minutes = 0; status = 2; key = 1; asc = 0x18; ascq = 0x02; b = lba 5 }) ∷ [])
    ∷ comes 3 1 (0x4D ∷ 0 ∷ 0x15 ∷ 0 ∷ 0 ∷ 0 ∷ 0 ∷ 0 ∷ 0xFF ∷ 0 ∷ [])
    ∷ at_once 3 (Page 3 (0x15 ∷ 0x00 ∷ 0x00 ∷ 0x28 ∷ 0 ∷ 0 ∷ 0x03 ∷ 0x0C ∷ 0 ∷ 0 ∷ 0 ∷ 0 ∷ 0 ∷ 0x01 ∷ 0 ∷ 1 ∷ 0xC0 ∷ 0 ∷ 0 ∷ 1
    ∷ 0 ∷ 1 ∷ 0x03 ∷ 0x14 ∷ 0 ∷ 0 ∷ 0 ∷ 0 ∷ 0x21 ∷ 0x18 ∷ 0x02 ∷ 0 ∷ 0 ∷ 0 ∷ 0 ∷ 0 ∷ 0 ∷ 0 ∷ 0 ∷ 0 ∷ 0 ∷ 0 ∷ 0 ∷ 5 ∷ []) ∷ good 3 ∷ []) ∷ []) ≡ true
unfolding operation_of
scan_moves = refl

-- a REASSIGN BLOCKS that is aborted: its move goes on as the drive's own
aborted_reassign : is_legal (sends 1 1 reassign (blocks_named (0 ∷ [])) ∷ starts 1 ∷ works 1 [] ∷ moves 1 []
    ∷ asks 1 (Abort (record { 0 = 1 })) (1 ∷ []) ∷ moves 1 [] ∷ moves 1 [] ∷ reads 2 0 0) ≡ true
unfolding operation_of
aborted_reassign = refl

-- an ORDERED command is aborted before it starts
aborted_early : is_legal_on (told 1 1 0x29 0x01 ++ comes_as Ordered 2 1 test_unit_ready Nothing ∷ asks 1 (Abort (record { 0 = 2 })) (2 ∷ []) ∷ []) ≡ true
unfolding operation_of
aborted_early = refl

-- a block is reassigned twice; what the stages found leaves no entry
reassigned_twice : is_legal (sends 1 1 reassign (blocks_named (0 ∷ 0 ∷ [])) ∷ starts 1 ∷ works 1 [] ∷ moves 1 [] ∷ moves 1 [] ∷ moves 1 []
    ∷ works 1 [] ∷ moves 2 [] ∷ moves 2 [] ∷ moves 2 [] ∷ works 1 (good 1 ∷ []) ∷ []) ≡ true
unfolding operation_of
reassigned_twice = refl

-- a destage, by the drive
destaged : is_legal (writes 1 5 0x11 ++ destages (hard_by_drive 5 ∷ []) ∷ cut ∷ power (Ready 6) ∷ told 2 1 0x29 0x01 ++ reads 3 5 0x11) ≡ true
unfolding operation_of
destaged = refl
