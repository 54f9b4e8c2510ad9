-- the start is that among the points to come
use Rattle.std.proofs.Common.{◌≡◌, drop}
use Rattle.run_picture.specs.Spans.{start_of}
use Rattle.run_picture.proofs.spans.start_of.Given as goal

abbrev pub invariant-loop-point : goal.invariant-loop-point
invariant-loop-point l = start_of l.subject (drop l.point-index l.later) ≡ start_of l.subject l.later
