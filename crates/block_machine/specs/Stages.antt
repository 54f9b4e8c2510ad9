-- The stages of a command's life, and which entries of it fit each.
use Rattle.std.specs.Prelude.{ℕ, ◌==◌, ◌&&◌, ◌||◌, Bool, true, false, not, if◌then◌else◌, IsTrue, List}
use Rattle.disk_base.specs.Along.{all_along}
use Rattle.sense_data.specs.declared.reply.Reply.{Reply}
use Rattle.cdb_reader.specs.Replies.{same_reply}
use Rattle.block_machine.specs.declared.entry.Who.TheVariants.{Command}
use Rattle.block_machine.specs.declared.entry.Entry.{Entry}
use Rattle.block_machine.specs.declared.entry.Entry.TheVariants.{Arrived, Started, Get, Put, Harden, Passed, Page, Ended, Aborted, Cut, Blank, Fresh}
use Rattle.block_machine.specs.declared.turn.Turn.{Turn}
use Rattle.block_machine.specs.Turns.{task_set_full}
use Rattle.block_machine.specs.History.{entries_of}

-- a command is still to come, it waits for its start, it is at work, or it is gone
pub data Stage : Type 0 where
  Coming : Stage
  Queued : Stage
  AtWork : Stage
  Gone : Stage

abbrev pub is_coming : Stage → Bool
is_coming Coming = true
is_coming other = false

abbrev pub is_queued : Stage → Bool
is_queued Queued = true
is_queued other = false

abbrev pub is_at_work : Stage → Bool
is_at_work AtWork = true
is_at_work other = false

-- it waits or is at work
abbrev pub is_in : Stage → Bool
is_in stage = is_queued stage || is_at_work stage

-- when the power goes off, every command that came is gone
abbrev pub cut_off : Stage → Stage
cut_off Coming = Coming
cut_off other = Gone

-- where a command is after an entry
abbrev pub stage_after : ℕ → Stage → Entry → Stage
stage_after c stage (Arrived d i t a cdb sent) = if c == d then Queued else stage
stage_after c stage (Started d) = if c == d then AtWork else stage
stage_after c stage (Ended d reply) = if c == d then Gone else stage
stage_after c stage (Aborted d) = if c == d then Gone else stage
stage_after c stage Cut = cut_off stage
stage_after c stage other = stage

-- a command may end while it is at work; while it waits, with TASK SET FULL alone
abbrev pub may_end_at : Stage → Reply → Bool
may_end_at stage reply = is_at_work stage || is_queued stage && same_reply reply task_set_full

-- whether an entry fits where a command is: it arrives once, starts once, does all else from its start to its end, and may be
-- aborted while it is in; the entries of other commands fit
abbrev pub fits_stage : ℕ → Stage → Entry → Bool
fits_stage c stage (Arrived d i t a cdb sent) = not (c == d) || is_coming stage
fits_stage c stage (Started d) = not (c == d) || is_queued stage
fits_stage c stage (Get d b v) = not (c == d) || is_at_work stage
fits_stage c stage (Put d b v) = not (c == d) || is_at_work stage
fits_stage c stage (Harden (Command d) b) = not (c == d) || is_at_work stage
fits_stage c stage (Passed d from to) = not (c == d) || is_at_work stage
fits_stage c stage (Page d bytes) = not (c == d) || is_at_work stage
fits_stage c stage (Ended d reply) = not (c == d) || may_end_at stage reply
fits_stage c stage (Aborted d) = not (c == d) || is_in stage
fits_stage c stage (Blank d) = not (c == d) || is_at_work stage
fits_stage c stage (Fresh d) = not (c == d) || is_at_work stage
fits_stage c stage other = true

-- a law: of each command the arrival comes first, and once; then until its start, which comes once, only an end with TASK SET FULL
-- or an abort; and nothing behind its end, its abort or a power cut
abbrev pub EntriesFitTheirStage : ℕ → List Turn → Type 0
EntriesFitTheirStage capacity turns = (c : ℕ) → IsTrue (all_along (stage_after c) (fits_stage c) Coming (entries_of turns))
