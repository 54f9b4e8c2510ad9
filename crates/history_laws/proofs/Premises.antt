-- What the laws ask for happens: each premise is met in a legal history that was worked out by hand.
use Rattle.std.proofs.Common.{◌≡◌, false, List, [], ◌∷◌, ◌++◌, refl, arith}
use Rattle.std.specs.Prelude.{IsTrue, filter}
use Rattle.disk_base.specs.declared.command.Attribute.TheVariants.{Simple}
use Rattle.disk_base.specs.declared.command.DataOut.TheVariants.{Nothing, Fill}
use Rattle.sense_data.specs.Attentions.{none_waiting}
use Rattle.cdb_reader.specs.Operation.{operation_of}
use Rattle.cdb_reader.specs.Replies as replies
use Rattle.cdb_reader.specs.Replies.{same_reply, unrecovered_read}
use Rattle.block_machine.specs.declared.entry.Who.TheVariants.{Command as ByCommand}
use Rattle.block_machine.specs.declared.entry.Entry.{Entry}
use Rattle.block_machine.specs.declared.entry.Entry.TheVariants.{Arrived, Started, Cut}
use Rattle.block_machine.specs.declared.entry.Recovered.TheVariants.{Ready}
use Rattle.block_machine.specs.declared.turn.Turn.{Turn}
use Rattle.block_machine.specs.History.{entries_of}
use Rattle.block_machine.specs.Parts.{Answered, Life, GetOf, PutOf, HardenOf, asked, before_start}
use Rattle.block_machine.specs.Laws.{IsLegal, IsTaskLegal, NoneRenews, NoneCuts, AsksToRead, AsksToForce, is_end_of, succeeds, settings_left}
use Rattle.block_machine.specs.KeptValues.{is_pending}
use Rattle.block_machine.specs.Lives.{AsksToWrite, AsksToSync, RenewalOf}
use Rattle.block_machine.proofs.Building.{disk, lba, all_of, read, write, forced_write, sync, sends, comes, starts, works, get, get_bad, put, hard, good, fails_at, cut, power, told, reads, reads_bad, writes}
use Rattle.history_laws.specs.Unread.{EndIn}

-- a write into the cache, its sync, a read of the block, a write with FUA of the next and a read of that
worked : List Turn
worked = sends 1 1 (write 5 1) (Fill 0x11) ∷ comes 2 1 (sync 5 1) ∷ comes 3 1 (read 5 1) ∷ sends 4 1 (forced_write 6 1) (Fill 0x22)
    ∷ starts 1 ∷ works 1 (put 1 5 0x11 ∷ good 1 ∷ []) ∷ starts 2 ∷ works 2 (hard 2 5 ∷ good 2 ∷ [])
    ∷ starts 3 ∷ works 3 (get 3 5 0x11 ∷ good 3 ∷ []) ∷ starts 4 ∷ works 4 (put 4 6 0x22 ∷ hard 4 6 ∷ good 4 ∷ []) ∷ reads 5 6 0x22

worked_is_legal : IsLegal disk none_waiting worked × IsTaskLegal disk none_waiting worked
unfolding worked operation_of
worked_is_legal = (refl, refl)

-- its entries
came : List Entry
came = Arrived 1 1 (record { 0 = 1 }) Simple (write 5 1) (Fill 0x11) ∷ Arrived 2 1 (record { 0 = 2 }) Simple (sync 5 1) Nothing
    ∷ Arrived 3 1 (record { 0 = 3 }) Simple (read 5 1) Nothing ∷ Arrived 4 1 (record { 0 = 4 }) Simple (forced_write 6 1) (Fill 0x22) ∷ []

written : List Entry
written = Started 1 ∷ put 1 5 0x11 ∷ good 1 ∷ []

synced : List Entry
synced = Started 2 ∷ hard 2 5 ∷ good 2 ∷ []

got : List Entry
got = Started 3 ∷ get 3 5 0x11 ∷ good 3 ∷ []

forced : List Entry
forced = Started 4 ∷ put 4 6 0x22 ∷ hard 4 6 ∷ good 4 ∷ []

got_last : List Entry
got_last = Arrived 5 1 (record { 0 = 5 }) Simple (read 6 1) Nothing ∷ Started 5 ∷ get 5 6 0x22 ∷ good 5 ∷ []

-- a read that isn't bad, after entries without a cut
a_read : GetOf (lba 5) (entries_of worked)
unfolding worked came written synced got forced got_last
a_read = record { reader = 3; block = all_of 0x11; before = came ++ written ++ synced ++ Started 3 ∷ []; behind = good 3 ∷ forced ++ got_last; whole = refl }

a_read_without_cut : NoneCuts a_read.before
unfolding a_read came written synced
a_read_without_cut = refl

-- one after the block was put, and after it was hardened, without anything newer between
a_put : PutOf (lba 5) a_read.before
unfolding a_read came written synced
a_put = record { writer = 1; block = all_of 0x11; before = came ++ Started 1 ∷ []; behind = good 1 ∷ synced ++ Started 3 ∷ []; whole = refl }

a_read_of_own : NoneCuts a_put.behind × NoneRenews 5 a_put.behind
unfolding a_put synced
a_read_of_own = (refl, refl)

a_harden : HardenOf (lba 5) a_read.before
unfolding a_read came written synced
a_harden = record { who = ByCommand 2; before = came ++ written ++ Started 2 ∷ []; behind = good 2 ∷ Started 3 ∷ []; whole = refl }

a_read_of_hardened : NoneRenews 5 a_harden.behind
unfolding a_harden
a_read_of_hardened = refl

-- a read that ended GOOD
a_whole_read : Answered worked
unfolding worked written synced forced got_last
a_whole_read = record {
  command = record { number = 3; initiator = 1; tag = record { 0 = 3 }; attribute = Simple; cdb = read 5 1; sent = Nothing };
  reply = replies.good;
  before = Arrived 1 1 (record { 0 = 1 }) Simple (write 5 1) (Fill 0x11) ∷ Arrived 2 1 (record { 0 = 2 }) Simple (sync 5 1) Nothing ∷ [];
  between = Arrived 4 1 (record { 0 = 4 }) Simple (forced_write 6 1) (Fill 0x22) ∷ written ++ synced ++ Started 3 ∷ get 3 5 0x11 ∷ [];
  behind = forced ++ got_last;
  whole = refl;
}

a_whole_read_asks : AsksToRead (asked disk a_whole_read.command) 5 1 × IsTrue (succeeds a_whole_read.reply)
unfolding a_whole_read operation_of
a_whole_read_asks = ((refl, refl), refl)

-- a write with FUA that ended GOOD, what it put, and a read of that
a_forced_write : Life worked
unfolding worked written synced got forced got_last
a_forced_write = record {
  command = record { number = 4; initiator = 1; tag = record { 0 = 4 }; attribute = Simple; cdb = forced_write 6 1; sent = Fill 0x22 };
  reply = replies.good;
  before = Arrived 1 1 (record { 0 = 1 }) Simple (write 5 1) (Fill 0x11) ∷ Arrived 2 1 (record { 0 = 2 }) Simple (sync 5 1) Nothing
      ∷ Arrived 3 1 (record { 0 = 3 }) Simple (read 5 1) Nothing ∷ [];
  queued = written ++ synced ++ got;
  during = put 4 6 0x22 ∷ hard 4 6 ∷ [];
  behind = got_last;
  whole = refl;
}

a_forced_write_asks : AsksToForce (asked disk a_forced_write.command) (settings_left (before_start a_forced_write)) 6 1
    × AsksToWrite (asked disk a_forced_write.command) 6 1 × IsTrue (succeeds a_forced_write.reply)
unfolding a_forced_write written synced got operation_of
a_forced_write_asks = ((refl, refl, refl), (refl, refl), refl)

a_forced_put : PutOf (lba 6) a_forced_write.during
unfolding a_forced_write
a_forced_put = record { writer = 4; block = all_of 0x22; before = []; behind = hard 4 6 ∷ []; whole = refl }

a_read_of_forced : GetOf (lba 6) a_forced_write.behind
unfolding a_forced_write got_last
a_read_of_forced = record { reader = 5; block = all_of 0x22; before = Arrived 5 1 (record { 0 = 5 }) Simple (read 6 1) Nothing ∷ Started 5 ∷ []; behind = good 5 ∷ []; whole = refl }

nothing_newer_than_forced : (a_forced_put.writer ≡ a_forced_write.command.number) × NoneRenews 6 a_forced_put.behind × NoneRenews 6 a_read_of_forced.before
unfolding a_forced_write a_forced_put a_read_of_forced
nothing_newer_than_forced = (refl, refl, refl)

-- a sync that ended GOOD, a block of its range, what was put there before, and a read of that
a_sync : Life worked
unfolding worked written synced got forced got_last
a_sync = record {
  command = record { number = 2; initiator = 1; tag = record { 0 = 2 }; attribute = Simple; cdb = sync 5 1; sent = Nothing };
  reply = replies.good;
  before = Arrived 1 1 (record { 0 = 1 }) Simple (write 5 1) (Fill 0x11) ∷ [];
  queued = Arrived 3 1 (record { 0 = 3 }) Simple (read 5 1) Nothing ∷ Arrived 4 1 (record { 0 = 4 }) Simple (forced_write 6 1) (Fill 0x22) ∷ written;
  during = hard 2 5 ∷ [];
  behind = got ++ forced ++ got_last;
  whole = refl;
}

a_sync_asks : AsksToSync (asked disk a_sync.command) 5 × IsTrue (succeeds a_sync.reply)
unfolding a_sync operation_of
a_sync_asks = ((omega arith, omega arith), refl)

a_renewal : RenewalOf (lba 5) (before_start a_sync)
unfolding a_sync came written
a_renewal = record { entry = put 1 5 0x11; renewing = refl; before = came ++ Started 1 ∷ []; behind = good 1 ∷ []; whole = refl }

a_renewal_without_cut : NoneCuts a_renewal.behind
unfolding a_renewal
a_renewal_without_cut = refl

a_synced_put : PutOf (lba 5) (before_start a_sync)
unfolding a_sync came written
a_synced_put = record { writer = 1; block = all_of 0x11; before = came ++ Started 1 ∷ []; behind = good 1 ∷ []; whole = refl }

a_read_of_synced : GetOf (lba 5) a_sync.behind
unfolding a_sync got
a_read_of_synced = record { reader = 3; block = all_of 0x11; before = Started 3 ∷ []; behind = good 3 ∷ forced ++ got_last; whole = refl }

nothing_newer_than_synced : NoneCuts a_synced_put.behind × NoneRenews 5 a_synced_put.behind × NoneRenews 5 a_sync.during × NoneRenews 5 a_read_of_synced.before
unfolding a_sync a_synced_put a_read_of_synced
nothing_newer_than_synced = (refl, refl, refl, refl)

-- an end
an_end : entries_of worked ≡ (came ++ Started 1 ∷ put 1 5 0x11 ∷ []) ++ good 1 ∷ (synced ++ got ++ forced ++ got_last)
unfolding worked came synced got forced got_last
an_end = refl

-- each of two commands has its end
two_ends : (filter (is_end_of 1) (entries_of worked) ≡ good 1 ∷ []) × (filter (is_end_of 2) (entries_of worked) ≡ good 2 ∷ [])
unfolding worked
two_ends = (refl, refl)

-- a write that a power cut leaves open, and two reads of the block with a further cut between and nothing newer
cut_short : List Turn
cut_short = writes 1 0 0x11 ++ cut ∷ power (Ready 6) ∷ told 2 1 0x29 0x01 ++ reads 3 0 0x11 ++ cut ∷ power (Ready 8) ∷ told 4 1 0x29 0x01 ++ reads 5 0 0x11

cut_short_is_legal : IsLegal disk none_waiting cut_short
unfolding cut_short operation_of
cut_short_is_legal = refl

a_later_read : GetOf (lba 0) (entries_of cut_short)
unfolding cut_short
a_later_read = record {
  reader = 5;
  block = all_of 0x11;
  before = entries_of (writes 1 0 0x11 ++ cut ∷ power (Ready 6) ∷ told 2 1 0x29 0x01 ++ reads 3 0 0x11 ++ cut ∷ power (Ready 8) ∷ told 4 1 0x29 0x01 ++ comes 5 1 (read 0 1) ∷ starts 5 ∷ []);
  behind = good 5 ∷ [];
  whole = refl;
}

an_earlier_read : GetOf (lba 0) a_later_read.before
unfolding a_later_read
an_earlier_read = record {
  reader = 3;
  block = all_of 0x11;
  before = entries_of (writes 1 0 0x11 ++ cut ∷ power (Ready 6) ∷ told 2 1 0x29 0x01 ++ comes 3 1 (read 0 1) ∷ starts 3 ∷ []);
  behind = good 3 ∷ entries_of (cut ∷ power (Ready 8) ∷ told 4 1 0x29 0x01 ++ comes 5 1 (read 0 1) ∷ starts 5 ∷ []);
  whole = refl;
}

two_reads_after_a_cut : (before since : List Entry) × (an_earlier_read.before ≡ before ++ Cut ∷ since) × NoneRenews 0 since × NoneRenews 0 an_earlier_read.behind
unfolding an_earlier_read
two_reads_after_a_cut = (
  entries_of (writes 1 0 0x11),
  entries_of (power (Ready 6) ∷ told 2 1 0x29 0x01 ++ comes 3 1 (read 0 1) ∷ starts 3 ∷ []),
  refl,
  refl,
  refl,
)

nothing_open_at_the_earlier : is_pending 0 an_earlier_read.before ≡ false
unfolding an_earlier_read
nothing_open_at_the_earlier = refl

-- a read that ends with UNRECOVERED READ ERROR
unread_is_legal : IsTaskLegal disk none_waiting (reads_bad 1 5)
unfolding operation_of
unread_is_legal = refl

an_unread_end : EndIn (reads_bad 1 5)
an_unread_end = record {
  number = 1;
  reply = unrecovered_read 5;
  turn = works 1 (get_bad 1 5 ∷ fails_at 1 3 0x11 0x00 5 ∷ []);
  before = comes 1 1 (read 5 1) ∷ starts 1 ∷ [];
  behind = [];
  earlier = get_bad 1 5 ∷ [];
  later = [];
  among = refl;
  within = refl;
}

an_unread_end_tells : IsTrue (same_reply an_unread_end.reply (unrecovered_read 5))
unfolding an_unread_end
an_unread_end_tells = refl
