-- How marks look, and where they stand.
use Rattle.std.specs.Prelude.{ℕ, ◌+◌, ◌*◌, ◌%◌, ◌==◌, if◌then◌else◌, List, codes, Option, Some, None}
use Rattle.block_machine.specs.declared.turn.Label.{Label}
use Rattle.block_machine.specs.declared.turn.Label.TheVariants.{Arrive, Work, Job, Scan, Destage, World}
use Rattle.run_picture.specs.declared.event.Event.{Event}
use Rattle.run_picture.specs.declared.event.Event.TheVariants.{Labelled, Came, Began, Answered, Gone, Got, Missed, Wrote, Hardened, GivenUp, FoundClean, Gave, Requested, ModeChanged, Visited, Noted, PowerOff, PowerOn, Waited, Emptied, Filled}
use Rattle.run_picture.specs.declared.points.Point.{Point}
use Rattle.run_picture.specs.declared.spans.Subject.{Subject}
use Rattle.run_picture.specs.declared.spans.Subject.TheVariants.{Command, Dirty, Dark}
use Rattle.run_picture.specs.declared.spans.Ending.{Ending}
use Rattle.run_picture.specs.declared.spans.Ending.TheVariants.{WithStatus, ByFunction, ByCut, OnMedium, PowerBack, Open}
use Rattle.run_picture.specs.declared.spans.Span.{Span}
use Rattle.run_picture.specs.declared.marks.Mark.{Mark}
use Rattle.run_picture.specs.declared.tags.Area.{Area}
use Rattle.run_picture.specs.declared.tags.Spot.{Spot}
use Rattle.run_picture.specs.declared.frame.Frame.{Frame}
use Rattle.run_picture.specs.Frame.{rows, row_of_subject, row_of_event, x_of, width_of}

-- how far the rectangle of a span stands below the top of its row
abbrev pub inset_of : Subject → ℕ
inset_of (Command c i) = 4
inset_of (Dirty b) = 16
inset_of Dark = 0

-- its height: a bar, a line, and a band through all rows
abbrev pub height_of : Frame → Subject → ℕ
height_of frame (Command c i) = 12
height_of frame (Dirty b) = 3
height_of frame Dark = 20 * rows frame

-- the rectangle of a span from one of its turns on
abbrev pub area_from : Frame → List Mark → Span → ℕ → Area
area_from frame marks s from = record {
  x = x_of frame.window from;
  y = 20 * row_of_subject frame marks s.subject + inset_of s.subject;
  width = width_of from s.to;
  height = height_of frame s.subject;
}

-- where a text stands in a row
abbrev pub row_spot : ℕ → ℕ → Spot
row_spot x row = record { x = x; y = 20 * row + 14 }

-- the row of a span's words; those of a band stand in the lane for what comes from outside
abbrev pub text_row : Frame → List Mark → Subject → ℕ
text_row frame marks Dark = 4
text_row frame marks subject = row_of_subject frame marks subject

-- where the word stands that says how a span ends
abbrev pub end_spot : Frame → List Mark → Span → Spot
end_spot frame marks s = row_spot (x_of frame.window s.to + 34) (text_row frame marks s.subject)

-- where the word stands that says that it began before
abbrev pub front_spot : Frame → List Mark → Span → Spot
front_spot frame marks s = row_spot (x_of frame.window s.from) (text_row frame marks s.subject)

-- where the letter of a point stands; those of a turn's first four places stand beside each other
abbrev pub point_spot : Frame → Point → Spot
point_spot frame p = row_spot (x_of frame.window p.turn + 8 * (p.place % 4)) (row_of_event frame p.event)

-- a status by its name (SAM-4, status codes)
abbrev pub status_word : ℕ → List ℕ
status_word status =
    if status == 0x00 then codes "GOOD" else
    if status == 0x02 then codes "CHECK CONDITION" else
    if status == 0x28 then codes "TASK SET FULL" else codes "another status"

-- the word for how a span ends, where it needs one
abbrev pub ending_word : Ending → Option (List ℕ)
ending_word (WithStatus status) = Some (status_word status)
ending_word ByFunction = Some (codes "aborted")
ending_word ByCut = Some (codes "cut off")
ending_word OnMedium = None
ending_word PowerBack = None
ending_word Open = Some (codes "open")

-- the colour of a status
abbrev pub status_colour : ℕ → List ℕ
status_colour status =
    if status == 0x00 then codes "#2e7d32" else
    if status == 0x02 then codes "#c62828" else
    if status == 0x28 then codes "#ef6c00" else codes "#616161"

-- the colour for how a span ends
abbrev pub colour_of : Ending → List ℕ
colour_of (WithStatus status) = status_colour status
colour_of ByFunction = codes "#6a1b9a"
colour_of ByCut = codes "#000000"
colour_of OnMedium = codes "#8d6e63"
colour_of PowerBack = codes "#78909c"
colour_of Open = codes "#1565c0"

-- the letter of a turn's label
abbrev pub letter_of_label : Label → List ℕ
letter_of_label (Arrive i) = codes "a"
letter_of_label (Work c) = codes "w"
letter_of_label (Job j) = codes "j"
letter_of_label Scan = codes "s"
letter_of_label Destage = codes "d"
letter_of_label (World event) = codes "o"

-- the letter of an event
abbrev pub letter_of : Event → List ℕ
letter_of (Labelled label) = letter_of_label label
letter_of (Came c i) = codes "i"
letter_of (Began c) = codes "b"
letter_of (Answered c status) = codes "e"
letter_of (Gone c) = codes "x"
letter_of (Got c b) = codes "g"
letter_of (Missed c b) = codes "L"
letter_of (Wrote c b) = codes "p"
letter_of (Hardened who b) = codes "h"
letter_of (GivenUp b) = codes "u"
letter_of (FoundClean c from to) = codes "c"
letter_of (Gave c) = codes "D"
letter_of (Requested i) = codes "f"
letter_of ModeChanged = codes "M"
letter_of (Visited b) = codes "v"
letter_of (Noted status b) = codes "n"
letter_of PowerOff = codes "0"
letter_of PowerOn = codes "1"
letter_of Waited = codes "t"
letter_of (Emptied c) = codes "E"
letter_of (Filled c) = codes "F"

-- the colour of an event's letter
abbrev pub colour_of_event : Event → List ℕ
colour_of_event (Missed c b) = codes "#c62828"
colour_of_event (GivenUp b) = codes "#c62828"
colour_of_event (Wrote c b) = codes "#1565c0"
colour_of_event (Hardened who b) = codes "#2e7d32"
colour_of_event other = codes "#000000"
