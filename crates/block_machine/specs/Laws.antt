-- Laws on legal histories, in words on entries, and on the settings that entries leave.
use Rattle.std.specs.Prelude.{◌≡◌, ℕ, zero, suc, ◌+◌, ◌-◌, ◌≤◌, ◌==◌, ◌||◌, Bool, true, false, not, if◌then◌else◌, IsTrue, List, [], ◌∷◌, ◌++◌, fold, filter, length, slice_get, Result, Ok}
use Rattle.std.specs.List.{list_any, list_all, range_with_len}
use Rattle.std.specs.Option.{option_map_or}
use Rattle.disk_base.specs.declared.address.Lba.{Lba}
use Rattle.disk_base.specs.declared.block.Value.{Value}
use Rattle.disk_base.specs.declared.block.Value.TheVariants.{Data, Lost}
use Rattle.disk_base.specs.declared.command.DataOut.{DataOut}
use Rattle.sense_data.specs.declared.sense.Sense.{Sense}
use Rattle.sense_data.specs.declared.reply.Reply.{Reply}
use Rattle.sense_data.specs.Attentions.{Waiting}
use Rattle.cdb_reader.specs.Replies.{is_recovered}
use Rattle.cdb_reader.specs.Request.{Request}
use Rattle.cdb_reader.specs.Request as request
use Rattle.cdb_reader.specs.Plan.{block_of}
use Rattle.block_machine.specs.declared.entry.Who.TheVariants.{Command}
use Rattle.block_machine.specs.declared.entry.Entry.{Entry}
use Rattle.block_machine.specs.declared.entry.Entry.TheVariants.{Arrived, Started, Get, Put, Harden, Passed, GiveUp, Ended, Aborted, Cut}
use Rattle.block_machine.specs.declared.turn.Turn.{Turn}
use Rattle.block_machine.specs.Blocks.{zeros, same_value}
use Rattle.task_set.specs.Members.{numbers}
use Rattle.mode_pages.specs.declared.settings.Settings.{Settings}
use Rattle.mode_pages.specs.Settings.{default_settings}
use Rattle.block_machine.specs.State.{state_at_start}
use Rattle.block_machine.specs.Steps.{settings_after}
use Rattle.block_machine.specs.History.{legal_from, task_legal_from, turns_after, entries_of}
use Rattle.block_machine.specs.Parts.{Answered, Life, GetOf, HardenOf, asked, before_start, since_arrival}

-- turns are a legal history, whatever attentions wait at its start
abbrev pub IsLegal : ℕ → Waiting → List Turn → Type 0
IsLegal capacity waiting turns = IsTrue (legal_from capacity (state_at_start waiting) turns)

-- a fact holds of each legal history, of a disk of any capacity
abbrev pub OfLegalHistories : (ℕ → List Turn → Type 0) → Type 0
OfLegalHistories Fact = (capacity : ℕ) (waiting : Waiting) (turns : List Turn) → IsLegal capacity waiting turns → Fact capacity turns

-- an entry gives a block something newer than it has on the medium: a value, or that it is given up
abbrev pub renews : ℕ → Entry → Bool
renews b (Put c a v) = b == a.0
renews b (GiveUp a) = b == a.0
renews b other = false

-- the power goes off
abbrev pub is_cut : Entry → Bool
is_cut Cut = true
is_cut other = false

-- the power stays on along entries
abbrev pub NoneCuts : List Entry → Type 0
NoneCuts entries = IsTrue (list_all (λ e. not (is_cut e)) entries)

-- the newest value of a block after an entry
abbrev pub newest_after : ℕ → Value → Entry → Value
newest_after b v (Put c a w) = if b == a.0 then Data w else v
newest_after b v (GiveUp a) = if b == a.0 then Lost else v
newest_after b v other = v

-- the value that was put last, or zeros; lost, where the block was given up since
abbrev pub last_put : ℕ → List Entry → Value
last_put b entries = fold (newest_after b) zeros entries

-- the last of some values alone
abbrev pub last_alone : List Value → List Value
last_alone values = option_map_or (λ v. v ∷ []) (slice_get values (length values - 1)) values

-- the values of a block that was hardened last and of those that were put since, after an entry
abbrev pub values_after : ℕ → List Value → Entry → List Value
values_after b values (Put c a w) = if b == a.0 then values ++ Data w ∷ [] else values
values_after b values (GiveUp a) = if b == a.0 then values ++ Lost ∷ [] else values
values_after b values (Harden who a) = if b == a.0 then last_alone values else values
values_after b values other = values

-- the value that was hardened last, zeros at first, and those that were put since
abbrev pub values_since_hardened : ℕ → List Entry → List Value
values_since_hardened b entries = fold (values_after b) (zeros ∷ []) entries

-- each of some entries leaves a block as new as it is
abbrev pub NoneRenews : ℕ → List Entry → Type 0
NoneRenews b entries = IsTrue (list_all (λ e. not (renews b e)) entries)

-- a law: without a power cut, a read that isn't bad gives the value that was put last, or zeros; so a block that was given up
-- since is bad
abbrev pub ReadsGiveWhatWasPutLast : ℕ → List Turn → Type 0
ReadsGiveWhatWasPutLast capacity turns = (b : Lba) (get : GetOf b (entries_of turns)) → NoneCuts get.before → last_put b.0 get.before ≡ Data get.block

-- a law: once hardened, a value is what each later read gives that isn't bad, over any number of power cuts, until a newer one
-- is put or the block is given up
abbrev pub HardenedValuesStay : ℕ → List Turn → Type 0
HardenedValuesStay capacity turns = (b : Lba) (get : GetOf b (entries_of turns)) (harden : HardenOf b get.before)
    → NoneRenews b.0 harden.behind
    → last_put b.0 harden.before ≡ Data get.block

-- a law: a read that isn't bad gives the value that was hardened last, zeros where none was, or one that was put since; also
-- after power cuts
abbrev pub ReadsGiveHardenedOrNewer : ℕ → List Turn → Type 0
ReadsGiveHardenedOrNewer capacity turns = (b : Lba) (get : GetOf b (entries_of turns))
    → IsTrue (list_any (same_value (Data get.block)) (values_since_hardened b.0 get.before))

-- a law: reads of a block after a power cut that aren't bad give one value, over further cuts, as long as nothing newer was put
-- since the cut and the block wasn't given up
abbrev pub FirstReadSettles : ℕ → List Turn → Type 0
FirstReadSettles capacity turns = (b : Lba) (later : GetOf b (entries_of turns)) (earlier : GetOf b later.before) (before since : List Entry)
    → earlier.before ≡ before ++ Cut ∷ since
    → NoneRenews b.0 since → NoneRenews b.0 earlier.behind
    → earlier.block ≡ later.block

-- a law: the beginnings of a legal history are legal
abbrev pub BeginningsAreLegal : Type 0
BeginningsAreLegal = (capacity : ℕ) (waiting : Waiting) (turns more : List Turn) → IsLegal capacity waiting (turns ++ more) → IsLegal capacity waiting turns

-- turns are a legal history as far as commands go
abbrev pub IsTaskLegal : ℕ → Waiting → List Turn → Type 0
IsTaskLegal capacity waiting turns = IsTrue (task_legal_from capacity (state_at_start waiting) turns)

-- a fact holds of each history that is legal as far as commands go
abbrev pub OfTaskLegalHistories : (ℕ → List Turn → Type 0) → Type 0
OfTaskLegalHistories Fact = (capacity : ℕ) (waiting : Waiting) (turns : List Turn) → IsTaskLegal capacity waiting turns → Fact capacity turns

-- the blocks whose data a command got, after an entry
abbrev pub got_after : ℕ → List ℕ → Entry → List ℕ
got_after c blocks (Get d b (Data v)) = if c == d then blocks ++ b.0 ∷ [] else blocks
got_after c blocks other = blocks

-- the blocks whose data a command got, in order
abbrev pub blocks_got : ℕ → List Entry → List ℕ
blocks_got c entries = fold (got_after c) [] entries

-- GOOD, or RECOVERED ERROR
abbrev pub succeeds : Reply → Bool
succeeds reply = reply.status == 0x00 || is_recovered reply

-- a read or a verification of so many blocks from one on
abbrev pub AsksToRead : Result Request Sense → ℕ → ℕ → Type 0
AsksToRead (Ok (request.Read from count fua)) b n = (from ≡ b) × (count ≡ n)
AsksToRead (Ok (request.Verify from count)) b n = (from ≡ b) × (count ≡ n)
AsksToRead other b n = ⊥

-- a law: a read or a verification that ends GOOD, or with a recovered error, got each block of its range once, in order
abbrev pub ReadsGetEachBlockOnce : ℕ → List Turn → Type 0
ReadsGetEachBlockOnce capacity turns = (read : Answered turns) (b n : ℕ)
    → AsksToRead (asked capacity read.command) b n → IsTrue (succeeds read.reply)
    → blocks_got read.command.number read.between ≡ range_with_len b n

-- what a command did on the medium: a block was put with these data, a block was hardened, a range was found hardened
pub data Mark : Type 0 where
  Wrote : (b : ℕ) (block : List ℕ) → Mark
  Forced : (b : ℕ) → Mark
  Found : (from to : ℕ) → Mark

-- what a command did on the medium, after an entry
abbrev pub marks_after : ℕ → List Mark → Entry → List Mark
marks_after c marks (Put d b v) = if c == d then marks ++ Wrote b.0 v ∷ [] else marks
marks_after c marks (Harden (Command d) b) = if c == d then marks ++ Forced b.0 ∷ [] else marks
marks_after c marks (Passed d from to) = if c == d then marks ++ Found from.0 to.0 ∷ [] else marks
marks_after c marks other = marks

-- all that a command did on the medium, in order
abbrev pub marks_of : ℕ → List Entry → List Mark
marks_of c entries = fold (marks_after c) [] entries

-- so many blocks from one on are put with their data, and each is hardened before the next is put
abbrev pub written_through : ℕ → DataOut → ℕ → List Mark
written_through b sent zero = []
written_through b sent (suc k) = written_through b sent k ++ Wrote (b + k) (block_of sent k) ∷ Forced (b + k) ∷ []

-- a mark says that a block was hardened
abbrev pub is_forced : Mark → Bool
is_forced (Forced b) = true
is_forced other = false

-- the mode values that entries leave, from the defaults on
abbrev pub settings_left : List Entry → Settings
settings_left entries = fold settings_after default_settings entries

-- a write that goes through of so many blocks from one on, where these mode values hold at its start: the write cache is off, or
-- it is with FUA, or with a verification
abbrev pub AsksToForce : Result Request Sense → Settings → ℕ → ℕ → Type 0
AsksToForce (Ok (request.Write from count fua)) settings b n = (from ≡ b) × (count ≡ n) × IsTrue (not settings.wce || fua)
AsksToForce (Ok (request.WriteAndVerify from count)) settings b n = (from ≡ b) × (count ≡ n)
AsksToForce other settings b n = ⊥

-- a law: a write with FUA, one that starts while the write cache is off, or a WRITE AND VERIFY, that ends GOOD or with a recovered
-- error, has from its arrival on put each of its blocks, once, in order and with its data, and hardened each before it put the next;
-- what it did besides was to harden before it verified
abbrev pub ForcedWritesAreHardened : ℕ → List Turn → Type 0
ForcedWritesAreHardened capacity turns = (write : Life turns) (b n : ℕ)
    → AsksToForce (asked capacity write.command) (settings_left (before_start write)) b n → IsTrue (succeeds write.reply)
    → (rest : List Mark)
    × (marks_of write.command.number (since_arrival write) ≡ written_through b write.command.sent n ++ rest) × IsTrue (list_all is_forced rest)

-- numbers without this one
abbrev pub left_out : ℕ → List ℕ → List ℕ
left_out c numbers = filter (λ d. not (d == c)) numbers

-- what has become of commands: the numbers of those that are in; and how many came, ended with a reply, were aborted by a function,
-- and were in when the power went off
pub record Tally : Type 0 where
  pub inside : List ℕ
  pub came : ℕ
  pub ended : ℕ
  pub aborted : ℕ
  pub cut : ℕ

-- before the first entry no command came
abbrev pub tally_at_start : Tally
tally_at_start = record { inside = []; came = 0; ended = 0; aborted = 0; cut = 0 }

-- what has become of commands, after an entry
abbrev pub tally_after : Tally → Entry → Tally
tally_after t (Arrived c i tag a cdb sent) = record t { inside = t.inside ++ c ∷ []; came = t.came + 1 }
tally_after t (Ended c reply) = record t { inside = left_out c t.inside; ended = t.ended + 1 }
tally_after t (Aborted c) = record t { inside = left_out c t.inside; aborted = t.aborted + 1 }
tally_after t Cut = record t { inside = []; cut = t.cut + length t.inside }
tally_after t other = t

-- what has become of commands, after entries
abbrev pub tally_of : List Entry → Tally
tally_of entries = fold tally_after tally_at_start entries

-- a law: as many commands came as ended, were aborted, were cut off, and are still in, and these are the task set's
abbrev pub CommandsAreAccountedFor : Type 0
CommandsAreAccountedFor = (capacity : ℕ) (waiting : Waiting) (turns : List Turn) → IsTaskLegal capacity waiting turns
    → ((tally_of (entries_of turns)).came
    ≡ (tally_of (entries_of turns)).ended + (tally_of (entries_of turns)).aborted + (tally_of (entries_of turns)).cut + length (tally_of (entries_of turns)).inside)
    × ((tally_of (entries_of turns)).inside ≡ numbers (turns_after capacity (state_at_start waiting) turns).set)

-- GOOD, CHECK CONDITION or TASK SET FULL (SAM-4, status codes)
abbrev pub is_status : ℕ → Bool
is_status status = status == 0x00 || status == 0x02 || status == 0x28

-- a law: each end has one of these statuses
abbrev pub EndsHaveTheirStatus : ℕ → List Turn → Type 0
EndsHaveTheirStatus capacity turns = (before after : List Entry) (c : ℕ) (reply : Reply)
    → entries_of turns ≡ before ++ Ended c reply ∷ after
    → IsTrue (is_status reply.status)

-- an entry ends a command: with a reply, or by a function
abbrev pub is_end_of : ℕ → Entry → Bool
is_end_of c (Ended d reply) = d == c
is_end_of c (Aborted d) = d == c
is_end_of c other = false

-- a law: no command has two ends, of either kind
abbrev pub NoneEndsTwice : ℕ → List Turn → Type 0
NoneEndsTwice capacity turns = (c : ℕ) → length (filter (is_end_of c) (entries_of turns)) ≤ 1

-- a law: a command that ends with success started before
abbrev pub SuccessesFollowStarts : ℕ → List Turn → Type 0
SuccessesFollowStarts capacity turns = (done : Answered turns)
    → IsTrue (succeeds done.reply)
    → (queued rest : List Entry) × (done.between ≡ queued ++ Started done.command.number ∷ rest)
