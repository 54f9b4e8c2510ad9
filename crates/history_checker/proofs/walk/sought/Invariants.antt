-- The places of the initiators so far.
use Rattle.std.proofs.Common.{◌≡◌, ℕ, ◌+◌, ◌<◌, length}
use Rattle.std.specs.Prelude.{slice_index, slice_range}
use Rattle.history_checker.specs.Parts.{lines_of}
use Rattle.history_checker.specs.Standing.{StandsFirst}
use Rattle.history_checker.proofs.walk.sought.Given as goal

abbrev pub invariant-loop-place : goal.invariant-loop-place
invariant-loop-place l =
    (l.number ≡ l.place + 1) × (length l.next ≡ 8)
    × ((k : ℕ) → k < l.place
    → StandsFirst l.lines (k + 1) (slice_index l.next k) l.stop (lines_of (k + 1) (slice_range l.lines (slice_index l.from k) l.stop)))
