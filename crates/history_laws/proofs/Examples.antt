-- For each law histories that would break it, which aren't legal, beside such as keep it.
use Rattle.std.proofs.Common.{◌≡◌, ℕ, true, false, List, [], ◌∷◌, ◌++◌, length, refl}
use Rattle.std.specs.Prelude.{filter, replicate, Some, None}
use Rattle.disk_base.specs.Along.{all_along}
use Rattle.disk_base.specs.declared.command.Attribute.TheVariants.{Ordered, Head}
use Rattle.disk_base.specs.declared.command.DataOut.TheVariants.{Nothing, Fill}
use Rattle.disk_base.specs.declared.command.Function.TheVariants.{AbortSet}
use Rattle.sense_data.specs.declared.reply.Reply.{Reply}
use Rattle.mode_pages.specs.Settings.{default_settings}
use Rattle.cdb_reader.specs.Operation.{operation_of}
use Rattle.cdb_reader.specs.Replies as replies
use Rattle.block_machine.specs.declared.entry.Entry.TheVariants.{Ended}
use Rattle.block_machine.specs.declared.entry.Recovered.TheVariants.{Ready}
use Rattle.block_machine.specs.declared.turn.Turn.{Turn}
use Rattle.block_machine.specs.History.{turns_after, entries_of}
use Rattle.block_machine.specs.Laws.{is_end_of, tally_of}
use Rattle.block_machine.specs.KeptValues.{is_pending}
use Rattle.block_machine.specs.Stages.{Coming, stage_after, fits_stage}
use Rattle.block_machine.proofs.Building.{read, write, verify, forced_write, write_and_verify, sync, reassign, blocks_named, test_unit_ready, moves, lose, comes, comes_as, sends, asks, starts, at_once, works, get, get_bad, put, hard, hard_by_drive, pass, good, fails_at, cut, power, told, told_drive, disk, destages, selects, reads, reads_bad, writes, forces, is_legal}
use Rattle.history_laws.specs.Order.{inside_after, starts_in_order}
use Rattle.history_laws.specs.Unread.{last_bad}

-- the power goes off and comes on, and the first initiator is told so
off_and_on : ℕ → List Turn
off_and_on c = cut ∷ power (Ready 1) ∷ told c 1 0x29 0x01

-- a read behind a write, over an earlier cut: its value, and the one before it
own_write : (is_legal (off_and_on 1 ++ writes 2 5 1 ++ reads 3 5 1) ≡ true) × (is_legal (off_and_on 1 ++ writes 2 5 1 ++ reads 3 5 0) ≡ false)
unfolding operation_of off_and_on
own_write = (refl, refl)

-- a read behind a write or a give-up, without a cut: what was put last, and nothing of a block that was given up
put_last : (is_legal (writes 1 5 1 ++ writes 2 5 2 ++ reads 3 5 2) ≡ true) × (is_legal (writes 1 5 1 ++ writes 2 5 2 ++ reads 3 5 1) ≡ false)
    × (is_legal (writes 1 5 1 ++ reads 2 6 0) ≡ true) × (is_legal (writes 1 5 1 ++ reads 2 6 1) ≡ false)
unfolding operation_of
put_last = (refl, refl, refl, refl)

given_up : List Turn
given_up = forces 1 5 1 ++ moves 1 (lose 5 ∷ hard_by_drive 5 ∷ []) ∷ []

given_up_is_bad : (is_legal (given_up ++ reads_bad 2 5) ≡ true) × (is_legal (given_up ++ reads 2 5 1) ≡ false) × (is_legal (given_up ++ reads 2 5 0) ≡ false)
unfolding operation_of given_up
given_up_is_bad = (refl, refl, refl)

-- over a cut: what was hardened last, or what was put since, and nothing older
hardened_or_newer : List Turn
hardened_or_newer = forces 1 5 1 ++ writes 2 5 2 ++ off_and_on 3

never_older : (is_legal (hardened_or_newer ++ reads 4 5 1) ≡ true) × (is_legal (hardened_or_newer ++ reads 4 5 2) ≡ true) × (is_legal (hardened_or_newer ++ reads 4 5 0) ≡ false)
unfolding operation_of off_and_on hardened_or_newer
never_older = (refl, refl, refl)

-- the first read after a cut settles the block, with the newer value or the older
first_settles : (is_legal (hardened_or_newer ++ reads 4 5 2 ++ reads 5 5 2) ≡ true) × (is_legal (hardened_or_newer ++ reads 4 5 2 ++ reads 5 5 1) ≡ false)
    × (is_legal (hardened_or_newer ++ reads 4 5 1 ++ reads 5 5 2) ≡ false)
unfolding operation_of off_and_on hardened_or_newer
first_settles = (refl, refl, refl)

-- what a cut left open is settled by a read: the value that it ruled out doesn't come back after another cut
settled : List Turn
settled = writes 1 5 1 ++ off_and_on 2 ++ reads 3 5 0 ++ off_and_on 4

ruled_out : (is_pending 5 (entries_of (writes 1 5 1 ++ off_and_on 2)) ≡ false) × (is_legal (settled ++ reads 5 5 0) ≡ true) × (is_legal (settled ++ reads 5 5 1) ≡ false)
unfolding operation_of off_and_on settled
ruled_out = (refl, refl, refl)

-- a write of two blocks: both, one alone, and one twice
write_of_two : List Turn
write_of_two = sends 1 1 (write 5 2) (Fill 1) ∷ starts 1 ∷ []

puts_each : (is_legal (write_of_two ++ works 1 (put 1 5 1 ∷ put 1 6 1 ∷ good 1 ∷ []) ∷ []) ≡ true)
    × (is_legal (write_of_two ++ works 1 (put 1 5 1 ∷ good 1 ∷ []) ∷ []) ≡ false)
    × (is_legal (write_of_two ++ works 1 (put 1 5 1 ∷ put 1 5 1 ∷ good 1 ∷ []) ∷ []) ≡ false)
unfolding operation_of write_of_two
puts_each = (refl, refl, refl)

-- a sync behind a write of its block: with the harden, and without
sync_behind : List Turn
sync_behind = writes 1 5 1 ++ comes 2 1 (sync 5 1) ∷ starts 2 ∷ []

sync_hardens : (is_legal (sync_behind ++ works 2 (hard 2 5 ∷ good 2 ∷ []) ∷ []) ≡ true)
    × (is_legal (sync_behind ++ works 2 (pass 2 5 6 ∷ good 2 ∷ []) ∷ []) ≡ false)
    × (is_legal (sync_behind ++ works 2 (good 2 ∷ []) ∷ []) ≡ false)
unfolding operation_of sync_behind
sync_hardens = (refl, refl, refl)

-- .. and behind a block that was given up
sync_behind_loss : List Turn
sync_behind_loss = moves 1 (lose 5 ∷ []) ∷ comes 1 1 (sync 5 1) ∷ starts 1 ∷ []

sync_hardens_loss : (is_legal (sync_behind_loss ++ works 1 (hard 1 5 ∷ good 1 ∷ []) ∷ []) ≡ true)
    × (is_legal (sync_behind_loss ++ works 1 (pass 1 5 6 ∷ good 1 ∷ []) ∷ []) ≡ false)
    × (is_legal (sync_behind_loss ++ works 1 (good 1 ∷ []) ∷ []) ≡ false)
unfolding operation_of sync_behind_loss
sync_hardens_loss = (refl, refl, refl)

-- a read of two blocks: both, one alone, and one twice
read_of_two : List Turn
read_of_two = comes 1 1 (read 5 2) ∷ starts 1 ∷ []

gets_each : (is_legal (read_of_two ++ works 1 (get 1 5 0 ∷ get 1 6 0 ∷ good 1 ∷ []) ∷ []) ≡ true)
    × (is_legal (read_of_two ++ works 1 (get 1 5 0 ∷ good 1 ∷ []) ∷ []) ≡ false)
    × (is_legal (read_of_two ++ works 1 (get 1 5 0 ∷ get 1 5 0 ∷ good 1 ∷ []) ∷ []) ≡ false)
unfolding operation_of read_of_two
gets_each = (refl, refl, refl)

-- a verification of two blocks is over behind both
verified_each : (is_legal (comes 1 1 (verify 5 2) ∷ starts 1 ∷ works 1 (get 1 5 0 ∷ get 1 6 0 ∷ good 1 ∷ []) ∷ []) ≡ true)
    × (is_legal (comes 1 1 (verify 5 2) ∷ starts 1 ∷ works 1 (get 1 5 0 ∷ good 1 ∷ []) ∷ []) ≡ false)
unfolding operation_of
verified_each = (refl, refl)

-- a write with FUA hardens, and isn't over before
forces_each : (is_legal (forces 1 5 1) ≡ true) × (is_legal (sends 1 1 (forced_write 5 1) (Fill 1) ∷ starts 1 ∷ works 1 (put 1 5 1 ∷ good 1 ∷ []) ∷ []) ≡ false)
unfolding operation_of
forces_each = (refl, refl)

-- a command that succeeds started, and ends once
one_end : (is_legal (reads 1 5 0) ≡ true) × (is_legal (comes 1 1 test_unit_ready ∷ works 1 (good 1 ∷ []) ∷ []) ≡ false) × (is_legal (reads 1 5 0 ++ works 1 (good 1 ∷ []) ∷ []) ≡ false)
unfolding operation_of
one_end = (refl, refl, refl)

ends_told : (length (filter (is_end_of 1) (entries_of (reads 1 5 0))) ≡ 1) × (length (filter (is_end_of 1) (entries_of (reads 1 5 0 ++ works 1 (good 1 ∷ []) ∷ []))) ≡ 2)
ends_told = (refl, refl)

-- commands of two initiators, of which one ended, one was aborted, one was cut off, and one is in
counted : List Turn
counted = reads 1 5 0 ++ comes 2 1 (read 5 1) ∷ asks 1 AbortSet (2 ∷ []) ∷ comes 3 1 (read 5 1) ∷ off_and_on 4 ++ comes 5 1 (read 5 1) ∷ []

counts : (is_legal counted ≡ true) × (tally_of (entries_of counted) ≡ record { inside = 5 ∷ []; came = 5; ended = 2; aborted = 1; cut = 1 })
unfolding operation_of off_and_on counted
counts = (refl, refl)

-- none ends that isn't in: neither one that never came, nor one that was aborted or cut off
counts_kept : (is_legal (counted ++ at_once 6 (good 6 ∷ []) ∷ []) ≡ false) × (is_legal (counted ++ works 2 (good 2 ∷ []) ∷ []) ≡ false) × (is_legal (counted ++ works 3 (good 3 ∷ []) ∷ []) ≡ false)
unfolding operation_of off_and_on counted
counts_kept = (refl, refl, refl)

-- an end has one of three statuses: BUSY and RESERVATION CONFLICT are none
busy : Reply
busy = record { status = 0x08; sense = None }

conflict : Reply
conflict = record { status = 0x18; sense = None }

ends_with : Reply → List Turn
ends_with reply = comes 1 1 test_unit_ready ∷ at_once 1 (Ended 1 reply ∷ []) ∷ []

statuses : (is_legal (ends_with replies.good) ≡ true) × (is_legal (ends_with busy) ≡ false) × (is_legal (ends_with conflict) ≡ false)
unfolding operation_of ends_with busy conflict
statuses = (refl, refl, refl)

-- a history that is legal up to a turn isn't where an earlier beginning of it isn't
beginnings : (is_legal (reads 1 5 0 ++ reads 2 5 0) ≡ true) × (is_legal (reads 1 5 1) ≡ false) × (is_legal (reads 1 5 1 ++ reads 2 5 0) ≡ false)
unfolding operation_of
beginnings = (refl, refl, refl)

-- a block is dirty, and listed once, from its put to its harden; a clean one isn't hardened
dirty_told : ((turns_after disk told_drive (writes 1 5 1 ++ writes 2 6 1 ++ writes 3 5 2)).dirty ≡ 5 ∷ 6 ∷ [])
    × ((turns_after disk told_drive (writes 1 5 1 ++ destages (hard_by_drive 5 ∷ []) ∷ [])).dirty ≡ [])
dirty_told = (refl, refl)

pending_told : (is_pending 5 (entries_of (writes 1 5 1)) ≡ true) × (is_pending 6 (entries_of (writes 1 5 1)) ≡ false)
    × (is_pending 5 (entries_of (writes 1 5 1 ++ destages (hard_by_drive 5 ∷ []) ∷ [])) ≡ false)
pending_told = (refl, refl, refl)

hardened_once : (is_legal (writes 1 5 1 ++ destages (hard_by_drive 5 ∷ []) ∷ []) ≡ true)
    × (is_legal (writes 1 5 1 ++ destages (hard_by_drive 5 ∷ []) ∷ destages (hard_by_drive 5 ∷ []) ∷ []) ≡ false) × (is_legal (destages (hard_by_drive 5 ∷ []) ∷ []) ≡ false)
unfolding operation_of
hardened_once = (refl, refl, refl)

-- what went through, or was synced, is read after a cut; what was there before it isn't
forced_stands : (is_legal (forces 1 5 1 ++ off_and_on 2 ++ reads 3 5 1) ≡ true) × (is_legal (forces 1 5 1 ++ off_and_on 2 ++ reads 3 5 0) ≡ false)
unfolding operation_of off_and_on
forced_stands = (refl, refl)

synced : List Turn
synced = sync_behind ++ works 2 (hard 2 5 ∷ good 2 ∷ []) ∷ off_and_on 3

synced_stands : (is_legal (synced ++ reads 4 5 1) ≡ true) × (is_legal (synced ++ reads 4 5 0) ≡ false)
unfolding operation_of off_and_on sync_behind synced
synced_stands = (refl, refl)

-- the same of a WRITE AND VERIFY, and of a write of any kind without the write cache
verified_first : List Turn
verified_first = sends 1 1 (write_and_verify 5 1) (Fill 1) ∷ starts 1 ∷ []

verified_stands : (is_legal (verified_first ++ works 1 (put 1 5 1 ∷ hard 1 5 ∷ []) ∷ works 1 (get 1 5 1 ∷ good 1 ∷ []) ∷ []) ≡ true)
    × (is_legal (verified_first ++ works 1 (put 1 5 1 ∷ good 1 ∷ []) ∷ []) ≡ false)
unfolding operation_of verified_first
verified_stands = (refl, refl)

uncached : List Turn
uncached = selects 1 (0x08 ∷ 0x12 ∷ replicate 18 0) (record default_settings { wce = false }) ++ sends 2 1 (write 5 1) (Fill 1) ∷ starts 2 ∷ []

uncached_stands : (is_legal (uncached ++ works 2 (put 2 5 1 ∷ hard 2 5 ∷ good 2 ∷ []) ∷ off_and_on 3 ++ reads 4 5 1) ≡ true)
    × (is_legal (uncached ++ works 2 (put 2 5 1 ∷ hard 2 5 ∷ good 2 ∷ []) ∷ off_and_on 3 ++ reads 4 5 0) ≡ false)
    × (is_legal (uncached ++ works 2 (put 2 5 1 ∷ good 2 ∷ []) ∷ []) ≡ false)
unfolding operation_of off_and_on uncached
uncached_stands = (refl, refl, refl)

-- a command does nothing before its start, and nothing behind its end
too_early : List Turn
too_early = comes 1 1 (read 5 1) ∷ works 1 (get 1 5 0 ∷ []) ∷ []

too_late : List Turn
too_late = reads 1 5 0 ++ works 1 (get 1 5 0 ∷ []) ∷ []

stages : (is_legal (reads 1 5 0) ≡ true) × (is_legal too_early ≡ false) × (is_legal too_late ≡ false)
unfolding operation_of too_early too_late
stages = (refl, refl, refl)

stages_told : (all_along (stage_after 1) (fits_stage 1) Coming (entries_of (reads 1 5 0)) ≡ true)
    × (all_along (stage_after 1) (fits_stage 1) Coming (entries_of too_early) ≡ false)
    × (all_along (stage_after 1) (fits_stage 1) Coming (entries_of too_late) ≡ false)
unfolding too_early too_late
stages_told = (refl, refl, refl)

-- behind an ORDERED command a HEAD OF QUEUE one starts, and a SIMPLE one doesn't; nor does the ORDERED one past an older one
passing_head : List Turn
passing_head = comes_as Ordered 1 1 test_unit_ready Nothing ∷ comes_as Head 2 2 test_unit_ready Nothing ∷ at_once 2 (good 2 ∷ []) ∷ at_once 1 (good 1 ∷ []) ∷ []

passing_simple : List Turn
passing_simple = comes_as Ordered 1 1 test_unit_ready Nothing ∷ comes 2 2 test_unit_ready ∷ at_once 2 (good 2 ∷ []) ∷ []

passing_older : List Turn
passing_older = comes 1 1 test_unit_ready ∷ comes_as Ordered 2 2 test_unit_ready Nothing ∷ at_once 2 (good 2 ∷ []) ∷ []

in_order : (is_legal passing_head ≡ true) × (is_legal passing_simple ≡ false) × (is_legal passing_older ≡ false)
unfolding operation_of passing_head passing_simple passing_older
in_order = (refl, refl, refl)

order_told : (all_along inside_after starts_in_order [] (entries_of passing_head) ≡ true)
    × (all_along inside_after starts_in_order [] (entries_of passing_simple) ≡ false)
    × (all_along inside_after starts_in_order [] (entries_of passing_older) ≡ false)
unfolding passing_head passing_simple passing_older
order_told = (refl, refl, refl)

-- a read that ends with UNRECOVERED READ ERROR: with its bad get, without it, and at another block
unread : (is_legal (reads_bad 1 5) ≡ true)
    × (is_legal (comes 1 1 (read 5 1) ∷ starts 1 ∷ works 1 (fails_at 1 3 0x11 0x00 5 ∷ []) ∷ []) ≡ false)
    × (is_legal (comes 1 1 (read 5 1) ∷ starts 1 ∷ works 1 (get_bad 1 5 ∷ fails_at 1 3 0x11 0x00 6 ∷ []) ∷ []) ≡ false)
unfolding operation_of
unread = (refl, refl, refl)

-- .. and in the turn of the bad get
unread_at_once : is_legal (comes 1 1 (read 5 1) ∷ starts 1 ∷ works 1 (get_bad 1 5 ∷ []) ∷ works 1 (fails_at 1 3 0x11 0x00 5 ∷ []) ∷ []) ≡ false
unfolding operation_of
unread_at_once = refl

-- a verification ends so, too, and a WRITE AND VERIFY; a sync and a REASSIGN BLOCKS don't
unread_verified : (is_legal (comes 1 1 (verify 5 1) ∷ starts 1 ∷ works 1 (get_bad 1 5 ∷ fails_at 1 3 0x11 0x00 5 ∷ []) ∷ []) ≡ true)
    × (is_legal (sends 1 1 (write_and_verify 5 1) (Fill 1) ∷ starts 1 ∷ works 1 (put 1 5 1 ∷ hard 1 5 ∷ []) ∷ works 1 (get_bad 1 5 ∷ fails_at 1 3 0x11 0x00 5 ∷ []) ∷ []) ≡ true)
unfolding operation_of
unread_verified = (refl, refl)

unread_never : (is_legal (comes 1 1 (sync 5 1) ∷ starts 1 ∷ works 1 (fails_at 1 3 0x11 0x00 5 ∷ []) ∷ []) ≡ false)
    × (is_legal (sends 1 1 reassign (blocks_named (5 ∷ [])) ∷ starts 1 ∷ works 1 (fails_at 1 3 0x11 0x00 5 ∷ []) ∷ []) ≡ false)
    × (is_legal (comes 1 1 test_unit_ready ∷ at_once 1 (fails_at 1 3 0x11 0x00 5 ∷ []) ∷ []) ≡ false)
unfolding operation_of
unread_never = (refl, refl, refl)

bad_told : (last_bad 1 (get_bad 1 5 ∷ get 2 6 0 ∷ []) ≡ Some 5) × (last_bad 1 (get_bad 1 5 ∷ get 1 6 0 ∷ []) ≡ None) × (last_bad 1 (get_bad 2 5 ∷ []) ≡ None)
bad_told = (refl, refl, refl)
