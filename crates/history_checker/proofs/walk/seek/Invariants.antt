-- The initiator has no line before the place.
use Rattle.std.proofs.Common.{◌≡◌}
use Rattle.std.specs.Prelude.{slice_range}
use Rattle.history_checker.specs.Parts.{lines_of}
use Rattle.history_checker.proofs.walk.seek.Given as goal

abbrev pub invariant-loop-place : goal.invariant-loop-place
invariant-loop-place l =
    lines_of l.number (slice_range l.lines l.from l.stop) ≡ lines_of l.number (slice_range l.lines l.place l.stop)
