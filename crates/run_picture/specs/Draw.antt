-- The picture of a range of turns.
use Rattle.std.specs.Prelude.{ℕ, ◌||◌, nat_lt, Bool, if◌then◌else◌, List, [], length, Option, Some, None}
use Rattle.block_machine.specs.declared.turn.Turn.{Turn}
use Rattle.run_picture.specs.declared.marks.Mark.{Mark}
use Rattle.run_picture.specs.declared.window.Window.{Window}
use Rattle.run_picture.specs.declared.frame.Frame.{Frame}
use Rattle.run_picture.specs.Marks.{marks_of}
use Rattle.run_picture.specs.Window.{shown_of}
use Rattle.run_picture.specs.Frame.{frame_of}
use Rattle.run_picture.specs.Tags.{with_tags}
use Rattle.run_picture.specs.Drawing.{picture_of}

-- more than 2,000 turns, or more than 200 blocks
abbrev pub is_too_great : Frame → Bool
is_too_great frame = nat_lt 2000 frame.turns || nat_lt 200 (length frame.blocks)

-- the marks that a range of turns shows
abbrev pub marks_within : Window → List Turn → List Mark
marks_within w turns = shown_of w (marks_of turns)

-- the text of marks, where they aren't too many
abbrev pub drawn : Frame → List Mark → Option (List ℕ)
drawn frame marks = if is_too_great frame then None else Some (with_tags [] (picture_of frame marks))

-- the picture of a range of turns, where it hasn't too many
abbrev pub drawing : List Turn → Window → Option (List ℕ)
drawing turns w = drawn (frame_of w (marks_within w turns)) (marks_within w turns)
