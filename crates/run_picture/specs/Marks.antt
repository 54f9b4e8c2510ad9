-- The marks of a picture.
use Rattle.std.specs.Prelude.{ℕ, List, [], ◌∷◌, ◌++◌, length, map, option_to_list}
use Rattle.block_machine.specs.declared.turn.Turn.{Turn}
use Rattle.run_picture.specs.declared.points.Point.{Point}
use Rattle.run_picture.specs.declared.marks.Mark.{Mark}
use Rattle.run_picture.specs.declared.marks.Mark.TheVariants.{At, Over}
use Rattle.run_picture.specs.Points.{points_of}
use Rattle.run_picture.specs.Spans.{span_at}

-- the marks of a point that has later ones behind it: one at its turn, and one over the turns of what it opens
abbrev pub marks_at : ℕ → Point → List Point → List Mark
marks_at last p later = At p ∷ map Over (option_to_list (span_at last p later))

-- the marks of points, where the last turn has this number
abbrev pub marks_from : ℕ → List Point → List Mark
marks_from last [] = []
marks_from last (p ∷ later) = marks_at last p later ++ marks_from last later

-- the marks of turns
abbrev pub marks_of : List Turn → List Mark
marks_of turns = marks_from (length turns) (points_of turns)
