-- Which turns may come.
use Rattle.std.specs.Prelude.{ℕ, ◌+◌, ◌==◌, ◌&&◌, ◌||◌, Bool, true, false, not, List, [], ◌∷◌, filter, length, Option, Some, None}
use Rattle.std.specs.List.{list_any}
use Rattle.disk_base.specs.Along.{all_along}
use Rattle.disk_base.specs.declared.command.Function.{Function}
use Rattle.disk_base.specs.declared.command.Function.TheVariants.{Abort, AbortSet, Clear, Reset}
use Rattle.sense_data.specs.declared.reply.Reply.{Reply}
use Rattle.task_set.specs.declared.named.Named.{Named}
use Rattle.task_set.specs.declared.named.Named.TheVariants.{Tagged, Of, Everyone}
use Rattle.task_set.specs.Members.{is_named, numbers}
use Rattle.cdb_reader.specs.declared.plan.Plan.{Plan}
use Rattle.cdb_reader.specs.declared.plan.Plan.TheVariants.{Ending, Unread, Answering, Changing, Reading, Writing, Syncing, Moving, Over}
use Rattle.cdb_reader.specs.Replies.{same_reply}
use Rattle.block_machine.specs.declared.entry.Entry.{Entry}
use Rattle.block_machine.specs.declared.entry.Entry.TheVariants.{Arrived, Started, Ended, Aborted, Asked}
use Rattle.block_machine.specs.declared.turn.Label.{Label}
use Rattle.block_machine.specs.declared.turn.Label.TheVariants.{Arrive, Work}
use Rattle.block_machine.specs.declared.turn.Turn.{Turn}
use Rattle.block_machine.specs.Blocks.{Blocks, blocks_after, block_lawful}
use Rattle.block_machine.specs.State.{State, is_full, owed_by}
use Rattle.block_machine.specs.Steps.{entry_after, entries_after, begun}
use Rattle.block_machine.specs.Entries.{entry_lawful}

-- the reply TASK SET FULL (SAM-4, status codes)
abbrev pub task_set_full : Reply
task_set_full = record { status = 0x28; sense = None }

-- the commands that a function of an initiator names (SAM-4, task management functions)
abbrev pub named_by : ℕ → Function → Named
named_by i (Abort tag) = Tagged i tag
named_by i AbortSet = Of i
named_by i Clear = Everyone
named_by i Reset = Everyone

-- the entries are the aborts of these commands, in this order, and nothing else
abbrev pub are_aborted : List ℕ → List Entry → Bool
are_aborted [] [] = true
are_aborted (c ∷ cs) (Aborted d ∷ entries) = c == d && are_aborted cs entries
are_aborted cs entries = false

-- what comes with a command that arrives: nothing more where there is room for it, else its end with TASK SET FULL
abbrev pub is_answered : Bool → ℕ → List Entry → Bool
is_answered false c [] = true
is_answered true c (Ended d reply ∷ []) = d == c && same_reply reply task_set_full
is_answered full c entries = false

-- whether the entries of an arrival's turn may come: the next command from this initiator; or a function that it asks for,
-- with all commands that are named, which end by age
abbrev pub arrival_lawful : State → ℕ → List Entry → Bool
arrival_lawful s i (Arrived c j t a cdb sent ∷ entries) = j == i && c == s.arrived + 1 && is_answered (is_full s) c entries
arrival_lawful s i (Asked j what ∷ entries) = j == i && are_aborted (numbers (filter (is_named (named_by i what)) s.set)) entries
arrival_lawful s i entries = false

-- the entry starts a command
abbrev pub is_start : Entry → Bool
is_start (Started c) = true
is_start other = false

-- the entry ends a command with a reply
abbrev pub is_end : Entry → Bool
is_end (Ended c reply) = true
is_end other = false

-- a start stands alone in its turn, unless the command ends in it
abbrev pub starts_alone : List Entry → Bool
starts_alone entries = not (list_any is_start entries) || length entries == 1 || list_any is_end entries

-- nothing is owed that has to come in the same turn, which a reply alone has, data without work on the medium, and new mode
-- values
abbrev pub owes_nothing_now : Option Plan → Bool
owes_nothing_now (Some (Ending reply)) = false
owes_nothing_now (Some (Unread b)) = false
owes_nothing_now (Some (Answering bytes reply)) = false
owes_nothing_now (Some Changing) = false
owes_nothing_now (Some (Reading r)) = true
owes_nothing_now (Some (Writing w)) = true
owes_nothing_now (Some (Syncing r)) = true
owes_nothing_now (Some (Moving m)) = true
owes_nothing_now (Some Over) = true
owes_nothing_now None = true

-- the command at work, where it is still in, owes nothing that has to come in this turn
abbrev pub is_settled : Label → State → Bool
is_settled (Work c) s = owes_nothing_now (owed_by s c)
is_settled other s = true

-- whether the entries of a turn that isn't an arrival may come, each by the state that those before it leave
abbrev pub work_lawful : ℕ → Label → State → List Entry → Bool
work_lawful capacity label s entries = starts_alone entries
    && all_along (entry_after capacity label) (entry_lawful capacity label) s entries
    && is_settled label (entries_after capacity label s entries)

-- whether the entries of a turn may come, by its label
abbrev pub entries_lawful : ℕ → Label → State → List Entry → Bool
entries_lawful capacity (Arrive i) s entries = arrival_lawful s i entries
entries_lawful capacity label s entries = work_lawful capacity label s entries

-- whether a turn may come as far as commands go
abbrev pub tasks_lawful : ℕ → State → Turn → Bool
tasks_lawful capacity s turn = entries_lawful capacity turn.label (begun s turn.label) turn.entries

-- whether the blocks allow entries, one after another
abbrev pub blocks_lawful : ℕ → Blocks → List Entry → Bool
blocks_lawful capacity blocks entries = all_along blocks_after (block_lawful capacity) blocks entries

-- whether a turn may come, for the commands and for the blocks
abbrev pub turn_lawful : ℕ → State → Turn → Bool
turn_lawful capacity s turn = tasks_lawful capacity s turn && blocks_lawful capacity s.blocks turn.entries

-- the state after a turn
abbrev pub turn_after : ℕ → State → Turn → State
turn_after capacity s turn = entries_after capacity turn.label (begun s turn.label) turn.entries
