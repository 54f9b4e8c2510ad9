-- What a started command still owes its initiator: the plan that it begins with, and the plan after each deed.
use Rattle.std.specs.Prelude.{ℕ, ◌+◌, ◌-◌, ◌*◌, ◌==◌, ◌&&◌, ◌||◌, not, Bool, true, false, nat_lt, nat_le, if◌then◌else◌, List, [], ◌∷◌, drop, length, replicate, slice_range, Option, Some, None}
use Rattle.std.specs.List.{list_any, position}
use Rattle.std.specs.Str.{bytes_eq}
use Rattle.disk_base.specs.declared.address.Lba.{Lba}
use Rattle.disk_base.specs.declared.block.Value.TheVariants.{Data, Lost}
use Rattle.disk_base.specs.declared.command.DataOut.{DataOut}
use Rattle.disk_base.specs.declared.command.DataOut.TheVariants.{Nothing, Fill, Given}
use Rattle.sense_data.specs.declared.reply.Reply.{Reply}
use Rattle.cdb_reader.specs.declared.plan.Reading as reading
use Rattle.cdb_reader.specs.declared.plan.Writing as writing
use Rattle.cdb_reader.specs.declared.plan.Moving as moving
use Rattle.cdb_reader.specs.declared.plan.Plan.{Plan}
use Rattle.cdb_reader.specs.declared.plan.Plan.TheVariants.{Ending, Unread, Answering, Changing, Reading, Writing, Syncing, Moving, Over}
use Rattle.cdb_reader.specs.declared.plan.Deed.{Deed}
use Rattle.cdb_reader.specs.declared.plan.Deed.TheVariants.{Page, Mode, Got, Put, Hardened, Passed, Ended}
use Rattle.cdb_reader.specs.Replies.{good, unrecovered_read, no_spare, same_reply, is_write_error, is_recovered}
use Rattle.cdb_reader.specs.Request.{Request}
use Rattle.cdb_reader.specs.Request as request

-- the data of the k-th block, counted from 0
abbrev pub block_of : DataOut → ℕ → List ℕ
block_of Nothing k = []
block_of (Fill byte) k = replicate 512 byte
block_of (Given bytes) k = slice_range bytes (512 * k) (512 * (k + 1))

-- reading from a block to below another
abbrev pub reading_from : ℕ → ℕ → Bool → Bool → Plan
reading_from at end through reports =
    Reading (record { at = at; end = end; through = through; reports = reports; hardened = false })

-- writing so many blocks from one on
abbrev pub writing_from : ℕ → ℕ → DataOut → Bool → Bool → Bool → Plan
writing_from from count sent through verifies reports = Writing (record {
  from = from;
  at = from;
  end = from + count;
  sent = sent;
  through = through;
  verifies = verifies;
  reports = reports;
  owes_harden = false;
})

-- the plan once a block is written: the next block, or after the last one the verification where one is owed
abbrev pub after_written : writing.Writing → Plan
after_written w =
    if w.verifies && w.at + 1 == w.end then reading_from w.from w.end true w.reports else
    Writing (record w { at = w.at + 1; owes_harden = false })

-- this plan where the deed may come
abbrev pub when : Bool → Plan → Option Plan
when may plan = if may then Some plan else None

-- the blocks after the last that was hardened; those before it are moved, of these any number may be
abbrev pub blocks_left : moving.Moving → List Lba
blocks_left m = drop m.hardened m.blocks

-- how a command may end by what it still owes, where the block that its reply names is dirty or not: with the reply that is owed;
-- once all its blocks are got, put or behind it with GOOD, or a read with a recovered error where that may be reported; with
-- WRITE ERROR at the next block, where that was to be written; or for want of a spare at a block that is left
abbrev pub may_end : Plan → Bool → Reply → Bool
may_end (Ending owed) dirty reply = same_reply reply owed
may_end (Unread b) dirty reply = same_reply reply (unrecovered_read b)
may_end (Reading r) dirty reply =
    (r.at == r.end && (same_reply reply good || r.reports && is_recovered reply))
    || (nat_lt r.at r.end && r.through && dirty && is_write_error r.at reply)
may_end (Writing w) dirty reply =
    not w.owes_harden && ((w.at == w.end && same_reply reply good) || (nat_lt w.at w.end && is_write_error w.at reply))
may_end (Syncing s) dirty reply =
    (s.at == s.end && same_reply reply good) || (nat_lt s.at s.end && dirty && is_write_error s.at reply)
may_end (Moving m) dirty reply = same_reply reply good || list_any (λ block. same_reply reply (no_spare block.0)) (blocks_left m)
may_end plan dirty reply = false

-- the move of a block is done, and of all before it
abbrev pub after_move : moving.Moving → Option ℕ → Option Plan
after_move m None = None
after_move m (Some i) = Some (Moving (record m { hardened = m.hardened + i + 1 }))

-- the plan after a deed, where the deed may come
abbrev pub next : Plan → Deed → Option Plan
next (Answering bytes reply) (Page given) = when (bytes_eq given bytes) (Ending reply)
next Changing Mode = Some (Ending good)
next (Reading r) (Hardened b) =
    when (r.through && not r.hardened && b.0 == r.at && nat_lt r.at r.end) (Reading (record r { hardened = true }))
next (Reading r) (Got b (Data d) dirty) =
    when (b.0 == r.at && nat_lt r.at r.end && not (r.through && dirty)) (Reading (record r { at = r.at + 1; hardened = false }))
next (Reading r) (Got b Lost dirty) = when (b.0 == r.at && nat_lt r.at r.end && not (r.through && dirty)) (Unread r.at)
next (Writing w) (Put b block full) =
    when (not w.owes_harden && b.0 == w.at && nat_lt w.at w.end && bytes_eq block (block_of w.sent (w.at - w.from)))
    (if w.through || full then Writing (record w { owes_harden = true }) else after_written w)
next (Writing w) (Hardened b) = when (w.owes_harden && b.0 == w.at && nat_lt w.at w.end) (after_written w)
next (Syncing s) (Passed from to) =
    when (from.0 == s.at && nat_lt s.at to.0 && nat_le to.0 s.end) (Syncing (record s { at = to.0 }))
next (Syncing s) (Hardened b) = when (b.0 == s.at && nat_lt s.at s.end) (Syncing (record s { at = s.at + 1 }))
next (Moving m) (Hardened b) = after_move m (position (λ block. block.0 == b.0) (blocks_left m))
next Over deed = None
next plan (Ended reply dirty) = when (may_end plan dirty reply) Over
next plan deed = None

-- a plan, or GOOD at once where the command names no block
abbrev pub unless_empty : ℕ → Plan → Option Plan
unless_empty count plan = if count == 0 then Some (Ending good) else Some plan

-- the plan of a command by its data, where writes go through and where a recovery may be reported; none where the command's
-- data or effect are pages, sense data or mode values
abbrev pub plan_of : Request → DataOut → Bool → Bool → Option Plan
plan_of request.TestUnitReady sent through reports = Some (Ending good)
plan_of (request.Read from count fua) sent through reports = unless_empty count (reading_from from (from + count) fua reports)
plan_of (request.Verify from count) sent through reports = unless_empty count (reading_from from (from + count) true reports)
plan_of (request.Write from count fua) sent through reports = unless_empty count (writing_from from count sent (through || fua) false reports)
plan_of (request.WriteAndVerify from count) sent through reports = unless_empty count (writing_from from count sent true true reports)
plan_of (request.SynchronizeCache from count) sent through reports = unless_empty count (Syncing (record { at = from; end = from + count }))
plan_of (request.ReassignBlocks blocks) sent through reports = unless_empty (length blocks) (Moving (record { blocks = blocks; hardened = 0 }))
plan_of request sent through reports = None

-- the plan after some deeds, where they may come
abbrev pub plan_after : Option Plan → List Deed → Option Plan
plan_after None deeds = None
plan_after (Some plan) [] = Some plan
plan_after (Some plan) (deed ∷ deeds) = plan_after (next plan deed) deeds

-- a plan that is fulfilled
abbrev pub is_over : Option Plan → Bool
is_over None = false
is_over (Some Over) = true
is_over (Some other) = false

-- some deeds fulfil a plan
abbrev pub fulfils : Option Plan → List Deed → Bool
fulfils plan deeds = is_over (plan_after plan deeds)
