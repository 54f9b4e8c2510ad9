-- the points of the turns so far, with those of the turns to come, are all
use Rattle.std.proofs.Common.{◌≡◌, ◌+◌, ◌++◌, drop}
use Rattle.run_picture.specs.Points.{points_from, points_of}
use Rattle.run_picture.proofs.points.points_of.Given as goal

abbrev pub invariant-loop-index : goal.invariant-loop-index
invariant-loop-index l = l.points ++ points_from (l.index + 1) (drop l.index l.turns) ≡ points_of l.turns
