-- the marks of the points so far, with those of the points to come, are all
use Rattle.std.proofs.Common.{◌≡◌, ◌++◌, drop}
use Rattle.run_picture.specs.Marks.{marks_from}
use Rattle.run_picture.proofs.marks.marks_from.Given as goal

abbrev pub invariant-loop-index : goal.invariant-loop-index
invariant-loop-index l = l.marks ++ marks_from l.last (drop l.index l.points) ≡ marks_from l.last l.points
