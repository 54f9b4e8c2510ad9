-- Where the rows and columns of a picture lie, in pixels: a column is 32 wide, and a row 20 high.
use Rattle.std.specs.Prelude.{ℕ, ◌+◌, ◌-◌, ◌*◌, ◌==◌, ◌&&◌, ◌||◌, nat_lt, Bool, true, false, List, length, count_by}
use Rattle.std.specs.Option.{option_map_or}
use Rattle.disk_base.specs.declared.address.Lba.{Lba}
use Rattle.block_machine.specs.declared.turn.Label.{Label}
use Rattle.block_machine.specs.declared.turn.Label.TheVariants.{Arrive, Work, Job, Scan, Destage, World}
use Rattle.run_picture.specs.declared.event.Event.{Event}
use Rattle.run_picture.specs.declared.event.Event.TheVariants.{Labelled, Visited, Noted, PowerOff, PowerOn, Waited}
use Rattle.run_picture.specs.declared.spans.Subject.{Subject}
use Rattle.run_picture.specs.declared.spans.Subject.TheVariants.{Command, Dirty, Dark}
use Rattle.run_picture.specs.declared.marks.Mark.{Mark}
use Rattle.run_picture.specs.declared.marks.Mark.TheVariants.{At, Over}
use Rattle.run_picture.specs.declared.window.Window.{Window}
use Rattle.run_picture.specs.declared.frame.Frame.{Frame}
use Rattle.run_picture.specs.Blocks.{block_of_event, blocks_of, place_of}

-- a span is about a command
abbrev pub is_command : Subject → Bool
is_command (Command c i) = true
is_command other = false

-- a mark is a command's bar
abbrev pub is_bar : Mark → Bool
is_bar (At p) = false
is_bar (Over s) = is_command s.subject

-- an event is the label of a turn, which has a column where its label is shown
abbrev pub is_label : Event → Bool
is_label (Labelled label) = true
is_label other = false

-- a mark is the label of a turn
abbrev pub is_column : Mark → Bool
is_column (At p) = is_label p.event
is_column (Over s) = false

-- the rows and columns for marks of a range of turns
abbrev pub frame_of : Window → List Mark → Frame
frame_of w marks = record { window = w; turns = count_by is_column marks; commands = count_by is_bar marks; blocks = blocks_of marks }

-- the commands of lower initiators stand above a command, and of the same initiator those with lower numbers
abbrev pub is_above : ℕ → ℕ → Subject → Bool
is_above i c (Command d j) = nat_lt j i || (j == i && nat_lt d c)
is_above i c other = false

-- a mark is the bar of a command that stands above one
abbrev pub stands_above : ℕ → ℕ → Mark → Bool
stands_above i c (At p) = false
stands_above i c (Over s) = is_above i c s.subject

-- how many commands stand above one
abbrev pub rank_of : ℕ → ℕ → List Mark → ℕ
rank_of i c marks = count_by (stands_above i c) marks

-- five rows stand above the commands': the numbers of turns, entries, moves, scan and destage, and what comes from outside; the
-- blocks' stand below
abbrev pub rows : Frame → ℕ
rows frame = 5 + frame.commands + length frame.blocks

-- the row of a block
abbrev pub row_of_block : Frame → Lba → ℕ
row_of_block frame b = 5 + frame.commands + place_of b frame.blocks

-- the row of what a span is about; without power, it is all from the first
abbrev pub row_of_subject : Frame → List Mark → Subject → ℕ
row_of_subject frame marks (Command c i) = 5 + rank_of i c marks
row_of_subject frame marks (Dirty b) = row_of_block frame b
row_of_subject frame marks Dark = 0

-- the lane of a turn's label
abbrev pub lane_of_label : Label → ℕ
lane_of_label (Arrive i) = 1
lane_of_label (Work c) = 1
lane_of_label (Job j) = 2
lane_of_label Scan = 3
lane_of_label Destage = 3
lane_of_label (World event) = 4

-- the lane of an event that is no block's
abbrev pub lane_of : Event → ℕ
lane_of (Labelled label) = lane_of_label label
lane_of (Visited b) = 3
lane_of (Noted status b) = 3
lane_of PowerOff = 4
lane_of PowerOn = 4
lane_of Waited = 4
lane_of other = 1

-- the row of an event
abbrev pub row_of_event : Frame → Event → ℕ
row_of_event frame event = option_map_or (row_of_block frame) (block_of_event event) (lane_of event)

-- the left edge of a turn's column
abbrev pub x_of : Window → ℕ → ℕ
x_of w turn = 192 + 32 * (turn - w.from)

-- the width of the columns of turns, from the first to the last
abbrev pub width_of : ℕ → ℕ → ℕ
width_of from to = 32 * (to + 1 - from)

-- the width of all columns, with room for words on either side
abbrev pub width : Frame → ℕ
width frame = 192 + 32 * frame.turns + 128
