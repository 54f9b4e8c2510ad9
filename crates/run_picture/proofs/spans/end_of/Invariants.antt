-- the end is that among the points to come
use Rattle.std.proofs.Common.{◌≡◌, drop}
use Rattle.run_picture.specs.Spans.{end_of}
use Rattle.run_picture.proofs.spans.end_of.Given as goal

abbrev pub invariant-loop-point : goal.invariant-loop-point
invariant-loop-point l = end_of l.subject l.last (drop l.point-index l.later) ≡ end_of l.subject l.last l.later
