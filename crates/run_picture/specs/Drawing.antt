-- A picture of marks, as tags (SVG 1.1).
use Rattle.std.specs.Prelude.{ℕ, ◌*◌, ◌==◌, if◌then◌else◌, List, [], ◌∷◌, ◌++◌, codes, decimal, flat_map}
use Rattle.std.specs.Option.{option_map_or}
use Rattle.disk_base.specs.declared.address.Lba.{Lba}
use Rattle.run_picture.specs.declared.points.Point.{Point}
use Rattle.run_picture.specs.declared.spans.Subject.{Subject}
use Rattle.run_picture.specs.declared.spans.Subject.TheVariants.{Command}
use Rattle.run_picture.specs.declared.spans.Span.{Span}
use Rattle.run_picture.specs.declared.marks.Mark.{Mark}
use Rattle.run_picture.specs.declared.marks.Mark.TheVariants.{At, Over}
use Rattle.run_picture.specs.declared.frame.Frame.{Frame}
use Rattle.run_picture.specs.declared.tags.Spot.{Spot}
use Rattle.run_picture.specs.Words.{event_words, subject_words}
use Rattle.run_picture.specs.Tags.{Attribute, Tag, Words, attribute, count, element}
use Rattle.run_picture.specs.Shapes.{rectangle_attributes, text_attributes, id, note, title}
use Rattle.run_picture.specs.Frame.{is_label, row_of_block, row_of_subject, rows, width, x_of}
use Rattle.run_picture.specs.Style.{row_spot, area_from, end_spot, front_spot, point_spot, ending_word, colour_of, colour_of_event, letter_of}

-- the size of a picture, and its font
abbrev pub svg_attributes : Frame → List Attribute
svg_attributes frame =
    attribute (codes "xmlns") (codes "http://www.w3.org/2000/svg") ∷ attribute (codes "version") (codes "1.1")
    ∷ count (codes "width") (width frame) ∷ count (codes "height") (20 * rows frame)
    ∷ attribute (codes "font-family") (codes "sans-serif") ∷ attribute (codes "font-size") (codes "10") ∷ []

-- what stands at the left of a lane
abbrev pub lane : ℕ → List ℕ → List Tag
lane y name = let spot : Spot = record { x = 4; y = y } in note spot name []

-- the names of the lanes
abbrev pub lanes : List Tag
lanes = lane 14 (codes "turns") ++ lane 34 (codes "entries") ++ lane 54 (codes "moves") ++ lane 74 (codes "scan and destage") ++ lane 94 (codes "from outside")

-- what stands at the left of a block's row
abbrev pub block_note : Frame → Lba → List Tag
block_note frame b = note (row_spot 4 (row_of_block frame b)) (codes "block") (decimal b.0 ∷ [])

-- the words for a command of an initiator
abbrev pub command_words : ℕ → ℕ → Tag
command_words c i = Words (codes "initiator") (decimal i ∷ codes "command" ∷ decimal c ∷ [])

-- these words at the left of a row
abbrev pub command_note : ℕ → ℕ → ℕ → List Tag
command_note row c i = element (codes "text") (text_attributes (row_spot 4 row) (codes "#000000")) (command_words c i ∷ [])

-- what stands at the left of a command's row
abbrev pub bar_note : Frame → List Mark → Subject → List Tag
bar_note frame marks (Command c i) = command_note (row_of_subject frame marks (Command c i)) c i
bar_note frame marks other = []

-- all of a span, in a pale colour
abbrev pub bar : Frame → List Mark → Span → List Tag
bar frame marks s =
    element (codes "rect") (rectangle_attributes (area_from frame marks s s.from) (colour_of s.ending) (codes "0.4")) (title s.from (subject_words s.subject))

-- the work on a command, in full colour
abbrev pub work_on : Frame → List Mark → Span → List Tag
work_on frame marks s =
    option_map_or (λ n. element (codes "rect") (rectangle_attributes (area_from frame marks s n) (colour_of s.ending) (codes "1")) []) s.start []

-- the word beside the end of a span
abbrev pub ending_note : Frame → List Mark → Span → List Tag
ending_note frame marks s = option_map_or (λ word. note (end_spot frame marks s) word []) (ending_word s.ending) []

-- the word at the front of a span that began before
abbrev pub front_note : Frame → List Mark → Span → List Tag
front_note frame marks s = if s.began_before then note (front_spot frame marks s) (codes "open") [] else []

-- a span
abbrev pub span_tags : Frame → List Mark → Span → List Tag
span_tags frame marks s =
    bar_note frame marks s.subject ++ bar frame marks s ++ work_on frame marks s ++ ending_note frame marks s ++ front_note frame marks s

-- what a mark draws over turns
abbrev pub mark_over : Frame → List Mark → Mark → List Tag
mark_over frame marks (At p) = []
mark_over frame marks (Over s) = span_tags frame marks s

-- the letter of a point, with its title
abbrev pub letter : Frame → Point → List Tag
letter frame p =
    element (codes "text") (text_attributes (point_spot frame p) (colour_of_event p.event)) (title p.turn (event_words p.event) ++ Words (letter_of p.event) [] ∷ [])

-- it stands in the column of its turn
abbrev pub letter_in : Frame → ℕ → Mark → List Tag
letter_in frame n (At p) = if p.turn == n then letter frame p else []
letter_in frame n (Over s) = []

-- the number of a turn, above its column
abbrev pub number_of : Frame → ℕ → List Tag
number_of frame n = note (row_spot (x_of frame.window n) 0) (decimal n) []

-- the column of a turn: its number, and the letters of its points
abbrev pub column_tags : Frame → List Mark → ℕ → List Tag
column_tags frame marks n = element (codes "g") (id n ∷ []) (number_of frame n ++ flat_map (letter_in frame n) marks)

-- a turn has its column at its label
abbrev pub column : Frame → List Mark → Mark → List Tag
column frame marks (At p) = if is_label p.event then column_tags frame marks p.turn else []
column frame marks (Over s) = []

-- a picture: the names of lanes and rows, the spans, and the columns
abbrev pub picture_of : Frame → List Mark → List Tag
picture_of frame marks = element (codes "svg") (svg_attributes frame)
    (lanes ++ flat_map (block_note frame) frame.blocks ++ flat_map (mark_over frame marks) marks ++ flat_map (column frame marks) marks)
