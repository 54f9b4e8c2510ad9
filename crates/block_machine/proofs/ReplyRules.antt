-- For each rule on what a started command owes two histories that break it alone, and the turn that may not come.
use Rattle.std.proofs.Common.{◌≡◌, ℕ, zero, suc, ◌+◌, true, false, List, [], ◌∷◌, ◌++◌, refl}
use Rattle.std.specs.Prelude.{replicate, take, Some}
use Rattle.disk_base.specs.declared.command.DataOut.TheVariants.{Fill, Given}
use Rattle.cdb_reader.specs.Operation.{operation_of}
use Rattle.cdb_reader.specs.Replies.{no_spare}
use Rattle.inquiry_data.specs.Identity.{standard_data}
use Rattle.mode_pages.specs.Settings.{default_settings}
use Rattle.block_machine.specs.declared.entry.Recovered.TheVariants.{Ready, Corrupt}
use Rattle.block_machine.specs.declared.entry.Entry.TheVariants.{Ended, Page, Mode}
use Rattle.block_machine.specs.declared.turn.Turn.{Turn}
use Rattle.block_machine.proofs.Building.{ten, read, write, sync, forced_read, forced_write, write_and_verify, verify, reassign, blocks_named, test_unit_ready, comes, sends, starts, at_once, works, moves, get, get_bad, put, hard, pass, lose, good, fails, fails_at, cut, power, minutes, told, ready, writes, hardens_plainly, selects, recovery_page, stops_at, stops_on_at}

-- an attention that waits is told before anything else: not GOOD, and not the refusal of the command block
attention_first : (stops_on_at (ready 1 1) ≡ Some 2)
    × (stops_on_at (comes 1 1 (read 912 1) ∷ at_once 1 (fails 1 5 0x21 0x00 ∷ []) ∷ []) ≡ Some 2)
unfolding operation_of
attention_first = (refl, refl)

-- INQUIRY, REPORT LUNS and REQUEST SENSE aren't ended by it
attention_passed : (stops_on_at (comes 1 1 (0x12 ∷ 0 ∷ 0 ∷ 0 ∷ 0x24 ∷ 0 ∷ []) ∷ at_once 1 (fails 1 6 0x29 0x01 ∷ []) ∷ []) ≡ Some 2)
    × (stops_on_at (comes 1 1 (0x03 ∷ 0 ∷ 0 ∷ 0 ∷ 0x12 ∷ 0 ∷ []) ∷ at_once 1 (fails 1 6 0x29 0x01 ∷ []) ∷ []) ≡ Some 2)
unfolding operation_of
attention_passed = (refl, refl)

-- the first check that fails decides: the fields before the address, the operation code before all
refusal_first : (stops_at (comes 1 1 (ten 0x28 0x20 912 1) ∷ at_once 1 (fails 1 5 0x21 0x00 ∷ []) ∷ []) ≡ Some 2)
    × (stops_at (comes 1 1 (0x04 ∷ 0 ∷ 0 ∷ 0 ∷ 0 ∷ 4 ∷ []) ∷ at_once 1 (fails 1 5 0x24 0x00 ∷ []) ∷ []) ≡ Some 2)
unfolding operation_of
refusal_first = (refl, refl)

-- a refusal comes in the turn of the start, and without data
refusal_at_once : (stops_at (comes 1 1 (read 912 1) ∷ starts 1 ∷ works 1 (fails 1 5 0x21 0x00 ∷ []) ∷ []) ≡ Some 2)
    × (stops_at (comes 1 1 (0x12 ∷ 0 ∷ 0x83 ∷ 0 ∷ 0x24 ∷ 0 ∷ []) ∷ at_once 1 (Page 1 standard_data ∷ fails 1 5 0x24 0x00 ∷ []) ∷ []) ≡ Some 2)
unfolding operation_of
refusal_at_once = (refl, refl)

-- with a corrupt map a medium command ends MEDIUM FORMAT CORRUPTED, and no other does
corrupt_ends : (stops_at (cut ∷ power (Corrupt 1) ∷ told 1 1 0x29 0x01 ++ ready 2 1) ≡ Some 6)
    × (stops_at (cut ∷ power (Corrupt 1) ∷ told 1 1 0x29 0x01 ++ comes 2 1 (0x25 ∷ replicate 9 0) ∷ at_once 2 (fails 2 3 0x31 0x00 ∷ []) ∷ []) ≡ Some 6)
unfolding operation_of
corrupt_ends = (refl, refl)

-- the address is checked before the map, and a map that could be read ends nothing
corrupt_in_order : (stops_at (cut ∷ power (Corrupt 1) ∷ told 1 1 0x29 0x01 ++ comes 2 1 (read 912 1) ∷ at_once 2 (fails 2 3 0x31 0x00 ∷ []) ∷ []) ≡ Some 6)
    × (stops_at (cut ∷ power (Ready 6) ∷ told 1 1 0x29 0x01 ++ comes 2 1 test_unit_ready ∷ at_once 2 (fails 2 3 0x31 0x00 ∷ []) ∷ []) ≡ Some 6)
unfolding operation_of
corrupt_in_order = (refl, refl)

-- data are given before the end, and are those of the command
pages_given : (stops_at (comes 1 1 (0x12 ∷ 0 ∷ 0 ∷ 0 ∷ 0x24 ∷ 0 ∷ []) ∷ at_once 1 (good 1 ∷ []) ∷ []) ≡ Some 2)
    × (stops_at (comes 1 1 (0x25 ∷ replicate 9 0) ∷ at_once 1 (Page 1 (0 ∷ 0 ∷ 3 ∷ 0x90 ∷ 0 ∷ 0 ∷ 2 ∷ 0 ∷ []) ∷ good 1 ∷ []) ∷ []) ≡ Some 2)
unfolding operation_of
pages_given = (refl, refl)

-- they go as far as the allocation length, and a command without data gives none
pages_cut : (stops_at (comes 1 1 (0x12 ∷ 0 ∷ 0 ∷ 0 ∷ 5 ∷ 0 ∷ []) ∷ at_once 1 (Page 1 (take 6 standard_data) ∷ good 1 ∷ []) ∷ []) ≡ Some 2)
    × (stops_at (comes 1 1 test_unit_ready ∷ at_once 1 (Page 1 [] ∷ good 1 ∷ []) ∷ []) ≡ Some 2)
unfolding operation_of
pages_cut = (refl, refl)

-- READ DEFECT DATA has its heading, and whole addresses
defects_given : (stops_at (comes 1 1 (0x37 ∷ 0 ∷ 0x1D ∷ 0 ∷ 0 ∷ 0 ∷ 0 ∷ 0 ∷ 0xFF ∷ 0 ∷ []) ∷ at_once 1 (Page 1 (0 ∷ 0x15 ∷ 0 ∷ 0 ∷ []) ∷ good 1 ∷ []) ∷ []) ≡ Some 2)
    × (stops_at (comes 1 1 (0x37 ∷ 0 ∷ 0x1D ∷ 0 ∷ 0 ∷ 0 ∷ 0 ∷ 0 ∷ 0xFF ∷ 0 ∷ []) ∷ at_once 1 (Page 1 (0 ∷ 0x1D ∷ 0 ∷ 8 ∷ 0 ∷ 0 ∷ 0 ∷ 1 ∷ []) ∷ good 1 ∷ []) ∷ []) ≡ Some 2)
unfolding operation_of
defects_given = (refl, refl)

-- another format is told, and the one that is given isn't
defects_told : (stops_at (comes 1 1 (0x37 ∷ 0 ∷ 0x18 ∷ 0 ∷ 0 ∷ 0 ∷ 0 ∷ 0 ∷ 0xFF ∷ 0 ∷ []) ∷ at_once 1 (Page 1 (0 ∷ 0x1D ∷ 0 ∷ 0 ∷ []) ∷ good 1 ∷ []) ∷ []) ≡ Some 2)
    × (stops_at (comes 1 1 (0x37 ∷ 0 ∷ 0x1D ∷ 0 ∷ 0 ∷ 0 ∷ 0 ∷ 0 ∷ 0xFF ∷ 0 ∷ []) ∷ at_once 1 (Page 1 (0 ∷ 0x1D ∷ 0 ∷ 0 ∷ []) ∷ fails 1 1 0x1C 0x00 ∷ []) ∷ []) ≡ Some 2)
unfolding operation_of
defects_told = (refl, refl)

-- the Background Scan Results of an idle scan, so many minutes after power on
log_page_of : ℕ → List ℕ
log_page_of n = 0x15 ∷ 0x00 ∷ 0x00 ∷ 0x10 ∷ 0 ∷ 0 ∷ 0x03 ∷ 0x0C ∷ 0 ∷ 0 ∷ 0 ∷ n ∷ 0 ∷ 0x01 ∷ replicate 6 0

-- LOG SENSE shows the minutes since the power came on, and no finding that there was none of
log_shown : (stops_at (minutes 5 ∷ comes 1 1 (0x4D ∷ 0 ∷ 0x15 ∷ 0 ∷ 0 ∷ 0 ∷ 0 ∷ 0 ∷ 0xFF ∷ 0 ∷ []) ∷ at_once 1 (Page 1 (log_page_of 0) ∷ good 1 ∷ []) ∷ []) ≡ Some 3)
    × (stops_at (minutes 5 ∷ cut ∷ power (Ready 6) ∷ told 1 1 0x29 0x01 ++ comes 2 1 (0x4D ∷ 0 ∷ 0x15 ∷ 0 ∷ 0 ∷ 0 ∷ 0 ∷ 0 ∷ 0xFF ∷ 0 ∷ []) ∷ at_once 2 (Page 2 (log_page_of 5) ∷ good 2 ∷ []) ∷ []) ≡ Some 7)
unfolding operation_of log_page_of
log_shown = (refl, refl)

-- a MODE SELECT that changes a value has the change, to those values
mode_changes : (stops_at (sends 1 1 (0x55 ∷ 0x10 ∷ 0 ∷ 0 ∷ 0 ∷ 0 ∷ 0 ∷ 0 ∷ 20 ∷ 0 ∷ []) (Given (replicate 8 0 ++ recovery_page 0xC4)) ∷ at_once 1 (good 1 ∷ []) ∷ []) ≡ Some 2)
    × (stops_at (selects 1 (recovery_page 0xC4) (record default_settings { per = true; arre = false })) ≡ Some 2)
unfolding operation_of
mode_changes = (refl, refl)

-- and one that changes none hasn't; nor has another command
mode_stays : (stops_at (selects 1 (recovery_page 0xC0) default_settings) ≡ Some 2)
    × (stops_at (comes 1 1 test_unit_ready ∷ at_once 1 (Mode default_settings ∷ good 1 ∷ []) ∷ []) ≡ Some 2)
unfolding operation_of
mode_stays = (refl, refl)

-- a read gets its blocks in order, and all of them
read_in_order : (stops_at (comes 1 1 (read 5 2) ∷ starts 1 ∷ works 1 (get 1 6 0 ∷ []) ∷ []) ≡ Some 3)
    × (stops_at (comes 1 1 (read 5 2) ∷ starts 1 ∷ works 1 (get 1 5 0 ∷ good 1 ∷ []) ∷ []) ≡ Some 3)
unfolding operation_of
read_in_order = (refl, refl)

-- and no more, nor one twice
read_once : (stops_at (comes 1 1 (read 5 1) ∷ starts 1 ∷ works 1 (get 1 5 0 ∷ []) ∷ works 1 (get 1 6 0 ∷ []) ∷ []) ≡ Some 4)
    × (stops_at (comes 1 1 (read 5 2) ∷ starts 1 ∷ works 1 (get 1 5 0 ∷ []) ∷ works 1 (get 1 5 0 ∷ []) ∷ []) ≡ Some 4)
unfolding operation_of
read_once = (refl, refl)

-- a bad block ends a read in its turn, with its address
read_bad_ends : (stops_at (comes 1 1 (read 5 2) ∷ starts 1 ∷ works 1 (get_bad 1 5 ∷ []) ∷ works 1 (fails_at 1 3 0x11 0x00 5 ∷ []) ∷ []) ≡ Some 3)
    × (stops_at (comes 1 1 (read 5 2) ∷ starts 1 ∷ works 1 (get_bad 1 5 ∷ fails_at 1 3 0x11 0x00 6 ∷ []) ∷ []) ≡ Some 3)
unfolding operation_of
read_bad_ends = (refl, refl)

-- UNRECOVERED READ ERROR comes for a bad block alone
read_bad_only : (stops_at (comes 1 1 (read 5 1) ∷ starts 1 ∷ works 1 (fails_at 1 3 0x11 0x00 5 ∷ []) ∷ []) ≡ Some 3)
    × (stops_at (comes 1 1 (read 5 1) ∷ starts 1 ∷ works 1 (get 1 5 0 ∷ fails_at 1 3 0x11 0x00 5 ∷ []) ∷ []) ≡ Some 3)
unfolding operation_of
read_bad_only = (refl, refl)

-- a read with FUA, and VERIFY, first harden a dirty block
read_hardens : (stops_at (writes 1 5 1 ++ comes 2 1 (forced_read 5 1) ∷ starts 2 ∷ works 2 (get 2 5 1 ∷ good 2 ∷ []) ∷ []) ≡ Some 6)
    × (stops_at (writes 1 5 1 ++ comes 2 1 (verify 5 1) ∷ starts 2 ∷ works 2 (get 2 5 1 ∷ good 2 ∷ []) ∷ []) ≡ Some 6)
unfolding operation_of
read_hardens = (refl, refl)

-- a block that isn't dirty isn't hardened by them, and a plain read hardens nothing
read_hardens_dirty : (stops_at (comes 1 1 (forced_read 5 1) ∷ starts 1 ∷ works 1 (hard 1 5 ∷ []) ∷ []) ≡ Some 3)
    × (stops_at (writes 1 5 1 ++ comes 2 1 (read 5 1) ∷ starts 2 ∷ works 2 (hard 2 5 ∷ get 2 5 1 ∷ good 2 ∷ []) ∷ []) ≡ Some 6)
unfolding operation_of
read_hardens_dirty = (refl, refl)

-- a write error ends a read with FUA at a dirty block alone, the one that comes next
read_unwritten : (stops_at (comes 1 1 (forced_read 5 1) ∷ starts 1 ∷ works 1 (fails_at 1 3 0x0C 0x00 5 ∷ []) ∷ []) ≡ Some 3)
    × (stops_at (writes 1 6 1 ++ comes 2 1 (forced_read 5 2) ∷ starts 2 ∷ works 2 (fails_at 2 3 0x0C 0x00 6 ∷ []) ∷ []) ≡ Some 6)
unfolding operation_of
read_unwritten = (refl, refl)

-- RECOVERED ERROR comes with PER 1 alone, with one of six codes
recovered_told : (stops_at (comes 1 1 (read 5 1) ∷ starts 1 ∷ works 1 (get 1 5 0 ∷ fails_at 1 1 0x17 0x01 5 ∷ []) ∷ []) ≡ Some 3)
    × (stops_at (selects 1 (recovery_page 0xC4) (record default_settings { per = true })
    ++ comes 2 1 (read 5 1) ∷ starts 2 ∷ works 2 (get 2 5 0 ∷ fails_at 2 1 0x17 0x04 5 ∷ []) ∷ []) ≡ Some 5)
unfolding operation_of
recovered_told = (refl, refl)

-- and names a block that was read
recovered_at : (stops_at (selects 1 (recovery_page 0xC4) (record default_settings { per = true })
    ++ comes 2 1 (read 5 1) ∷ starts 2 ∷ works 2 (get 2 5 0 ∷ fails_at 2 1 0x17 0x01 6 ∷ []) ∷ []) ≡ Some 5)
    × (stops_at (selects 1 (recovery_page 0xC4) (record default_settings { per = true })
    ++ comes 2 1 (read 5 1) ∷ starts 2 ∷ works 2 (get 2 5 0 ∷ fails 2 1 0x17 0x01 ∷ []) ∷ []) ≡ Some 5)
unfolding operation_of
recovered_at = (refl, refl)

-- a write puts its data, block by block
write_puts : (stops_at (sends 1 1 (write 5 2) (Fill 1) ∷ starts 1 ∷ works 1 (put 1 5 2 ∷ []) ∷ []) ≡ Some 3)
    × (stops_at (sends 1 1 (write 5 2) (Fill 1) ∷ starts 1 ∷ works 1 (put 1 6 1 ∷ []) ∷ []) ≡ Some 3)
unfolding operation_of
write_puts = (refl, refl)

-- all of them, and none twice
write_puts_all : (stops_at (sends 1 1 (write 5 2) (Fill 1) ∷ starts 1 ∷ works 1 (put 1 5 1 ∷ good 1 ∷ []) ∷ []) ≡ Some 3)
    × (stops_at (sends 1 1 (write 5 1) (Fill 1) ∷ starts 1 ∷ works 1 (put 1 5 1 ∷ []) ∷ works 1 (put 1 5 1 ∷ []) ∷ []) ≡ Some 4)
unfolding operation_of
write_puts_all = (refl, refl)

-- with FUA and under WCE 0 each is hardened before the end
write_hardens : (stops_at (sends 1 1 (forced_write 5 1) (Fill 1) ∷ starts 1 ∷ works 1 (put 1 5 1 ∷ good 1 ∷ []) ∷ []) ≡ Some 3)
    × (stops_at (selects 1 (0x08 ∷ 0x12 ∷ replicate 18 0) (record default_settings { wce = false }) ++ writes 2 5 1) ≡ Some 5)
unfolding operation_of
write_hardens = (refl, refl)

-- a write into the cache hardens nothing, neither its block nor another
write_keeps : (stops_at (hardens_plainly 1 5 1) ≡ Some 3)
    × (stops_at (writes 1 6 1 ++ sends 2 1 (write 5 1) (Fill 1) ∷ starts 2 ∷ works 2 (put 2 5 1 ∷ hard 2 6 ∷ []) ∷ []) ≡ Some 6)
unfolding operation_of
write_keeps = (refl, refl)

-- 64 blocks are dirty, put one by one
many_writes : ℕ → ℕ → List Turn
many_writes c zero = []
many_writes c (suc n) = writes c c 1 ++ many_writes (c + 1) n

-- where 64 other blocks are dirty a write goes through: with 64 it may not stay, and with 63 it may not harden
write_crowded : (stops_at (many_writes 1 64 ++ writes 65 65 1) ≡ Some 195)
    × (stops_at (many_writes 1 63 ++ hardens_plainly 64 64 1) ≡ Some 192)
unfolding operation_of many_writes
write_crowded = (refl, refl)

-- one that is dirty itself isn't another: the 64th may be put again
write_again : (stops_at (many_writes 1 64 ++ hardens_plainly 65 64 1) ≡ Some 195)
    × (stops_at (many_writes 1 64 ++ writes 65 64 1 ++ writes 66 66 1) ≡ Some 198)
unfolding operation_of many_writes
write_again = (refl, refl)

-- a write error ends a write at a block that isn't put, the next one
write_unwritten : (stops_at (sends 1 1 (forced_write 5 2) (Fill 1) ∷ starts 1 ∷ works 1 (put 1 5 1 ∷ fails_at 1 3 0x0C 0x00 5 ∷ []) ∷ []) ≡ Some 3)
    × (stops_at (sends 1 1 (forced_write 5 2) (Fill 1) ∷ starts 1 ∷ works 1 (fails_at 1 3 0x0C 0x00 6 ∷ []) ∷ []) ≡ Some 3)
unfolding operation_of
write_unwritten = (refl, refl)

-- WRITE AND VERIFY reads after it wrote: it doesn't end before, and reads from the first block on
verified : (stops_at (sends 1 1 (write_and_verify 5 1) (Fill 1) ∷ starts 1 ∷ works 1 (put 1 5 1 ∷ hard 1 5 ∷ good 1 ∷ []) ∷ []) ≡ Some 3)
    × (stops_at (sends 1 1 (write_and_verify 5 2) (Fill 1) ∷ starts 1 ∷ works 1 (put 1 5 1 ∷ hard 1 5 ∷ []) ∷ works 1 (put 1 6 1 ∷ hard 1 6 ∷ [])
    ∷ works 1 (get 1 6 1 ∷ []) ∷ []) ≡ Some 5)
unfolding operation_of
verified = (refl, refl)

-- a sync goes over its range without a gap, to its end
sync_whole : (stops_at (comes 1 1 (sync 0 8) ∷ starts 1 ∷ works 1 (pass 1 1 8 ∷ []) ∷ []) ≡ Some 3)
    × (stops_at (comes 1 1 (sync 0 8) ∷ starts 1 ∷ works 1 (pass 1 0 7 ∷ good 1 ∷ []) ∷ []) ≡ Some 3)
unfolding operation_of
sync_whole = (refl, refl)

-- and not beyond it, nor by passes of nothing
sync_within : (stops_at (comes 1 1 (sync 0 8) ∷ starts 1 ∷ works 1 (pass 1 0 9 ∷ []) ∷ []) ≡ Some 3)
    × (stops_at (comes 1 1 (sync 0 8) ∷ starts 1 ∷ works 1 (pass 1 0 0 ∷ []) ∷ []) ≡ Some 3)
unfolding operation_of
sync_within = (refl, refl)

-- a write error ends a sync at the dirty block that comes next
sync_unwritten : (stops_at (comes 1 1 (sync 0 8) ∷ starts 1 ∷ works 1 (fails_at 1 3 0x0C 0x00 0 ∷ []) ∷ []) ≡ Some 3)
    × (stops_at (writes 1 5 1 ++ comes 2 1 (sync 0 8) ∷ starts 2 ∷ works 2 (fails_at 2 3 0x0C 0x00 5 ∷ []) ∷ []) ≡ Some 6)
unfolding operation_of
sync_unwritten = (refl, refl)

-- REASSIGN BLOCKS hardens blocks of its list, in order
reassign_in_list : (stops_at (moves 1 (lose 5 ∷ []) ∷ sends 1 1 reassign (blocks_named (3 ∷ [])) ∷ starts 1 ∷ moves 2 (hard 1 5 ∷ []) ∷ []) ≡ Some 4)
    × (stops_at (writes 1 3 1 ++ writes 2 9 1 ++ sends 3 1 reassign (blocks_named (3 ∷ 9 ∷ [])) ∷ starts 3 ∷ moves 1 (hard 3 9 ∷ []) ∷ moves 2 (hard 3 3 ∷ []) ∷ []) ≡ Some 10)
unfolding operation_of
reassign_in_list = (refl, refl)

-- NO DEFECT SPARE LOCATION AVAILABLE names a block of the list that isn't reassigned
reassign_without_spare : (stops_at (sends 1 1 reassign (blocks_named (3 ∷ [])) ∷ starts 1 ∷ works 1 (Ended 1 (no_spare 4) ∷ []) ∷ []) ≡ Some 3)
    × (stops_at (writes 1 9 1 ++ sends 2 1 reassign (blocks_named (3 ∷ 9 ∷ [])) ∷ starts 2 ∷ moves 1 (hard 2 9 ∷ []) ∷ works 2 (Ended 2 (no_spare 3) ∷ []) ∷ []) ≡ Some 7)
unfolding operation_of
reassign_without_spare = (refl, refl)

-- a command that names no block ends GOOD at once
empty_ends : (stops_at (comes 1 1 (read 5 0) ∷ starts 1 ∷ []) ≡ Some 2)
    × (stops_at (sends 1 1 reassign (blocks_named []) ∷ at_once 1 (Ended 1 (no_spare 0) ∷ []) ∷ []) ≡ Some 2)
unfolding operation_of
empty_ends = (refl, refl)
