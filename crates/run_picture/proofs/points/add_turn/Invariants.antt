-- the points so far, with those of the entries to come, are all
use Rattle.std.proofs.Common.{◌≡◌, ◌+◌, ◌++◌, drop}
use Rattle.run_picture.specs.Points.{entry_points, turn_points}
use Rattle.run_picture.proofs.points.add_turn.Given as goal

abbrev pub invariant-loop-index : goal.invariant-loop-index
invariant-loop-index l = l.points ++ entry_points l.number (l.index + 1) (drop l.index l.turn.entries) ≡ l.fn.points ++ turn_points l.number l.turn
